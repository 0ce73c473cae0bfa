-- The adjoint of a polynomial, unless it is plus or minus the polynomial.
use Rattle.adjoint_rules.proofs.Prelude.{◌≡◌, negsuc, neg_ℤ, ◌≤◌, true, false, cond, ◌||◌, List, [], ◌∷◌, ◌++◌, length, sym, ap, ap₂, subst, or_left, or_right, false_from_ne_true, length-map, All-map, AllZip, Term, SamePolynomial, poly_multiple, poly_eq, Quiver, adjoint_poly, new_adjoint, Same_refl, Same_sym, Same_trans, poly_eq-true, SamePolynomial-poly_eq, negated, IsCanonical, shaped-negated}

pub canonical-negated : (p : List Term) → IsCanonical p → IsCanonical (negated p)
canonical-negated p h = record {
  shaped = shaped-negated p h.shaped;
  short = All-map (λ (t : Term). length t.1 ≤ 500) (λ (t : Term). (neg_ℤ t.0, t.1)) p h.short;
  few = subst (λ n. n ≤ 20000) (sym (length-map p (λ (t : Term). (neg_ℤ t.0, t.1)))) h.few;
}

left_out : (q : Quiver) (p : List Term) → (poly_eq (adjoint_poly q p) p || poly_eq (adjoint_poly q p) (poly_multiple (negsuc 0) p)) ≡ true → AllZip SamePolynomial [] (new_adjoint q p)
left_out q p e = subst (AllZip SamePolynomial []) (ap (λ b. cond b [] (adjoint_poly q p ∷ [])) (sym e)) tt

-- r is the adjoint of p
module _ (q : Quiver) (p r : List Term) (adjoint : SamePolynomial r (adjoint_poly q p)) where
  abbrev minus : List Term
  minus = poly_multiple (negsuc 0) p

  from_r : (s : List Term) → SamePolynomial r s → SamePolynomial (adjoint_poly q p) s
  from_r s same = Same_trans (adjoint_poly q p) r s (Same_sym r (adjoint_poly q p) adjoint) same

  pub new_adjoint-plus : SamePolynomial r p → AllZip SamePolynomial [] (new_adjoint q p)
  new_adjoint-plus same = left_out q p (or_left _ _ (SamePolynomial-poly_eq (adjoint_poly q p) p (from_r p same)))

  -- and n the negative of p
  module _ (n : List Term) (negative : SamePolynomial n (poly_multiple (negsuc 0) p)) where
    pub new_adjoint-minus : SamePolynomial r n → AllZip SamePolynomial [] (new_adjoint q p)
    new_adjoint-minus same = left_out q p (or_right _ _ (SamePolynomial-poly_eq (adjoint_poly q p) minus (from_r minus (Same_trans r n minus same negative))))

    pub new_adjoint-one : (SamePolynomial r p → ⊥) → (SamePolynomial r n → ⊥) → AllZip SamePolynomial (r ∷ []) (new_adjoint q p)
    new_adjoint-one not_plus not_minus =
        let first : poly_eq (adjoint_poly q p) p ≡ false =
        false_from_ne_true _ (λ e. not_plus (Same_trans r (adjoint_poly q p) p adjoint (poly_eq-true (adjoint_poly q p) p e))) in
        let second : poly_eq (adjoint_poly q p) minus ≡ false =
        false_from_ne_true _ (λ e. not_minus (Same_trans r (adjoint_poly q p) n adjoint (Same_trans (adjoint_poly q p) minus n (poly_eq-true (adjoint_poly q p) minus e) (Same_sym n minus negative)))) in
        subst (AllZip SamePolynomial (r ∷ [])) (ap₂ (λ b c. cond (b || c) [] (adjoint_poly q p ∷ [])) (sym first) (sym second)) (adjoint, tt)

-- lists of polynomials
pub each_same : (ps : List (List Term)) → AllZip SamePolynomial ps ps
each_same [] = tt
each_same (p ∷ ps) = (Same_refl p, each_same ps)
