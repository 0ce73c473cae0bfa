-- The canonical order as one to list words by.
use Rattle.std.proofs.Common.{◌≡◌, ◌⊎◌, inl, inr, true, refl, ap, ◌∙◌}
use Rattle.std.specs.Ordering.{is_lt, ordering_reverse}
use Rattle.std.specs.declared.cmp.Ordering.{Ordering}
use Rattle.std.specs.declared.cmp.Ordering.TheVariants.{Less, Equal, Greater}
use Rattle.definitions.specs.Poly.{Word}
use Rattle.word_core.proofs.CanonicalLaws.{word_cmp-admissible}
use Rattle.word_core.proofs.Order.{word_cmp-itself}
use Rattle.word_core.specs.Canonical.{word_cmp, word_cmp_total}
use Rattle.normal_forms.specs.Maps.{comes_before}
use Rattle.normal_forms.proofs.Collect.{Sorting}

pub from_test : (x : Ordering) → is_lt x ≡ true → x ≡ Less
from_test Less e = refl
from_test Equal e = absurd (cc)
from_test Greater e = absurd (cc)

pub before_total : (v w : Word) → (v ≡ w) ⊎ ((comes_before v w ≡ true) ⊎ (comes_before w v ≡ true))
before_total v w = (elim (word_cmp v w) as (λ x. word_cmp v w ≡ x → (v ≡ w) ⊎ ((comes_before v w ≡ true) ⊎ (comes_before w v ≡ true))) [
  | Less ↦ λ e. inr (inl (ap is_lt e))
  | Equal ↦ λ e. inl ((word_cmp-admissible 0).same v w e)
  | Greater ↦ λ e. inr (inr (ap is_lt (word_cmp_total.antisymm w v ∙ ap ordering_reverse e)))
]) refl

abbrev pub canonical : Sorting
canonical = record {
  below = comes_before;
  irreflexive = λ w. ap is_lt (word_cmp-itself w);
  transitive = λ u v w one other. ap is_lt (word_cmp_total.trans u v w (from_test (word_cmp u v) one) (from_test (word_cmp v w) other));
  total = before_total;
}
