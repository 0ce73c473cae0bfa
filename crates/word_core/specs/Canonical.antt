-- The canonical order of words.
use Rattle.std.specs.Prelude.{ℕ, List, length}
use Rattle.std.specs.Ordering.{nat_cmp, then_cmp, on}
use Rattle.std.specs.Cmp.Lexicographic.{slice_cmp}
use Rattle.std.specs.Cmp.{IsTotalOrder}
use Rattle.std.proofs.lemmas.Cmp.{nat_list_cmp_total, nat_cmp_total, on_total, then_total}
use Rattle.std.specs.declared.cmp.Ordering.{Ordering}

-- by length first, and then letter by letter from the left
abbrev pub word_cmp : List ℕ → List ℕ → Ordering
word_cmp = then_cmp (on length nat_cmp) (slice_cmp nat_cmp)

-- it is a total order
pub word_cmp_total : IsTotalOrder word_cmp
word_cmp_total = then_total (on_total length nat_cmp_total) nat_list_cmp_total
