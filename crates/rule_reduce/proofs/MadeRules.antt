-- The rule of a polynomial.
use Rattle.rule_reduce.proofs.Prelude.{◌≡◌, ℕ, ℤ, pos, ◌<◌, ◌<ℤ◌, List, [], ◌∷◌, length, slice_get, Some, IsSomeAnd, ◌∙◌, arith, subst, All, Term, unsigned_abs, ints, dvd_antisymm, IsContent, IsCoefficient, IsOver, Compare, Poly, leading_term, IsRule}
use Rattle.rule_reduce.proofs.Numbers.{all_at}

-- a polynomial with a leading term has a term
pub has_terms : (compare : Compare) (p : List Term) (P : Term → Type 0) → IsSomeAnd (leading_term compare p) P → 0 < length p
has_terms compare [] P some = absurd some
has_terms compare (t ∷ p) P some = omega arith

pub rule_is : (letters : ℕ) (compare : Compare) (poly : Poly) (n : ℕ) (leading : ℤ) (lead : List ℕ) → leading_term compare poly.terms ≡ slice_get poly.terms n → slice_get poly.terms n ≡ Some (leading, lead)
    → IsSomeAnd (leading_term compare poly.terms) (λ t. pos 0 <ℤ t.0) → All (λ t. 0 < length t.1) poly.terms → All (λ t. IsOver letters t.1) poly.terms
    → IsRule letters compare (record { leading = leading; lead = lead; poly = poly })
rule_is letters compare poly n leading lead best here positive nonempty over = record {
  leading = best ∙ here;
  positive = subst (λ o. IsSomeAnd o (λ t. pos 0 <ℤ t.0)) (best ∙ here) positive;
  in_range = all_at (λ t. IsCoefficient t.0) poly.terms n (leading, lead) here poly.canonical.shaped.in_range;
  nonempty = nonempty;
  over = over;
}

-- a polynomial has one content
pub one_content : (p : List Term) (g h : ℤ) → IsContent p g → IsContent p h → g ≡ h
one_content p g h one other =
    let same : unsigned_abs g ≡ unsigned_abs h = dvd_antisymm (other.greatest (unsigned_abs g) one.divides) (one.greatest (unsigned_abs h) other.divides) in
    omega (arith, ints, one.nonnegative, other.nonnegative)
