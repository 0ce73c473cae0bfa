-- The multiples l G r of generators, and their order.
use Rattle.std.specs.Ordering.{nat_cmp, then_cmp, on}
use Rattle.std.specs.Cmp.{IsTotalOrder}
use Rattle.std.proofs.lemmas.Cmp.{nat_cmp_total, on_total, then_total}
use Rattle.std.specs.declared.cmp.Ordering.{Ordering}
use Rattle.word_core.specs.Canonical.{word_cmp, word_cmp_total}
use Rattle.traced_rows.specs.declared.certificate.CertRow.{CertRow}
use Rattle.cofactor_trace.specs.declared.table.Multiple.{Multiple}

-- l G r of the row c l G r
abbrev pub multiple_of : CertRow → Multiple
multiple_of r = record { generator = r.generator; left = r.left; right = r.right }

-- by the generator first, then by the word before it and then by the word after it
abbrev pub multiple_cmp : Multiple → Multiple → Ordering
multiple_cmp = then_cmp (on (λ m. m.generator) nat_cmp) (then_cmp (on (λ m. m.left) word_cmp) (on (λ m. m.right) word_cmp))

-- it is a total order
pub multiple_cmp_total : IsTotalOrder multiple_cmp
multiple_cmp_total = then_total (on_total (λ m. m.generator) nat_cmp_total)
    (then_total (on_total (λ m. m.left) word_cmp_total) (on_total (λ m. m.right) word_cmp_total))
