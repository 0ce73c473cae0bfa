-- Each way down from a word ends, in each order that can be asked for.
use Rattle.std.specs.Prelude.{ℕ}
use Rattle.definitions.specs.Poly.{Word}
use Rattle.word_orders.specs.declared.any.OrderSpec.{OrderSpec}
use Rattle.word_orders.specs.Specified.{asked_cmp}
use Rattle.word_orders.proofs.AskedOrders.{asked_rank, asked_cmp-admissible}
use Rattle.word_orders.proofs.Induction.{word_induction}
use Rattle.ambiguities.specs.Resolved.{is_below}
use Rattle.confluence.proofs.Tests.{below_from_test}
use Rattle.normal_forms.specs.RationalForms.{IsGrounded, grounded}

pub all_grounded : (letters : ℕ) (order : OrderSpec) (w : Word) → IsGrounded (is_below letters (asked_cmp order)) w
all_grounded letters order =
    word_induction letters (asked_cmp order) (asked_rank letters order) (asked_cmp-admissible letters order) (IsGrounded (is_below letters (asked_cmp order)))
    (λ M below. grounded M (λ L test. below L (below_from_test letters (asked_cmp order) L M test)))
