-- Two polynomials with the same coefficients have the same terms.
use Rattle.std.proofs.Common.{◌≡◌, ◌≢◌, ℕ, pos, Bool, true, false, List, [], ◌∷◌, get_or, ◌⊎◌, inl, inr, refl, ap, ◌∙◌, arith}
use Rattle.std.proofs.lemmas.List.Elements.{All-tail, recursion_from_All}
use Rattle.std.specs.List.{All}
use Rattle.std.specs.Ordering.{is_lt, ordering_reverse}
use Rattle.std.specs.declared.cmp.Ordering.{Ordering}
use Rattle.std.specs.declared.cmp.Ordering.TheVariants.{Less, Equal, Greater}
use Rattle.definitions.proofs.Canonical.{IsStrictOrder, IsCanonical as IsCanonicalBy, canonical_unique as unique_by}
use Rattle.definitions.specs.Poly.{Term, SamePolynomial}
use Rattle.word_core.proofs.Order.{word_cmp-same, word_cmp-itself}
use Rattle.word_core.specs.Canonical.{word_cmp, word_cmp_total}
use Rattle.nc_polynomial.specs.Shape.{IsShaped, IsCanonical}
use Rattle.nc_polynomial.proofs.Shapes.{Descends, IsNonzero, recursion_from_IsDescending}

-- whether the first word is below the second
abbrev pub is_below : List ℕ → List ℕ → Bool
is_below v w = is_lt (word_cmp v w)

less_from_test : (o : Ordering) → is_lt o ≡ true → o ≡ Less
less_from_test o h = grind arith

itself : (w : List ℕ) → is_lt (word_cmp w w) ≡ false
itself w = ap is_lt (word_cmp-itself w)

three_ways : (v w : List ℕ) → (v ≡ w) ⊎ ((is_below v w ≡ true) ⊎ (is_below w v ≡ true))
three_ways v w =
    (elim (word_cmp v w) as (λ o. word_cmp v w ≡ o → (v ≡ w) ⊎ ((is_below v w ≡ true) ⊎ (is_below w v ≡ true))) [
      | Less ↦ λ e. inr (inl (ap is_lt e))
      | Equal ↦ λ e. inl (word_cmp-same v w e)
      | Greater ↦ λ e. inr (inr (ap is_lt (word_cmp_total.antisymm w v ∙ ap ordering_reverse e)))
    ]) refl

pub below_is_strict : IsStrictOrder is_below
below_is_strict = record {
  irreflexive = itself;
  transitive = λ u v w h k. ap is_lt (word_cmp_total.trans u v w (less_from_test (word_cmp u v) h) (less_from_test (word_cmp v w) k));
  total = three_ways;
}

canonical : (p : List Term) → Descends p → All (λ t. t.0 ≢ pos 0) p → IsCanonicalBy is_below p
canonical [] d h = tt
canonical (t ∷ p) d h = (
  record {
    nonzero = h 0 t (omega arith);
    above = recursion_from_All (λ (u : Term). is_below u.1 t.1 ≡ true) p (λ i x k. ap is_lt (word_cmp_total.antisymm (get_or p i x).1 t.1 ∙ ap ordering_reverse (d.0 i x k)));
  },
  canonical p d.1 (All-tail IsNonzero t p h),
)

-- two descending lists with no zero coefficient and the same coefficients are equal
pub descending_unique : (p q : List Term) → Descends p → Descends q → All (λ t. t.0 ≢ pos 0) p → All (λ t. t.0 ≢ pos 0) q → SamePolynomial p q → p ≡ q
descending_unique p q d e h k same = unique_by below_is_strict p q (canonical p d h) (canonical q e k) same

pub shaped_unique : (p q : List Term) → IsShaped p → IsShaped q → SamePolynomial p q → p ≡ q
shaped_unique p q h k same = descending_unique p q (recursion_from_IsDescending p h.descending) (recursion_from_IsDescending q k.descending) h.nonzero k.nonzero same

pub canonical_unique : (p q : List Term) → IsCanonical p → IsCanonical q → SamePolynomial p q → p ≡ q
canonical_unique p q h k same = shaped_unique p q h.shaped k.shaped same
