-- What the calls return, as polynomials.
use Rattle.std.proofs.Common.{◌≡◌, ℤ, negsuc, neg_ℤ, ◌*ℤ◌, arith, List, [], ◌∷◌, Ok, sym, refl, ap₂, subst, ◌∙◌}
use Rattle.std.proofs.lemmas.Int.{ints}
use Rattle.definitions.proofs.Coefficients.{Same_trans, SamePolynomial-append, coefficient_of-append, coefficient_of-multiple}
use Rattle.definitions.specs.Poly.{Term, SamePolynomial, poly_sum, poly_multiple}
use Rattle.nc_polynomial.specs.Faults.{checked, sized}
use Rattle.nc_polynomial.specs.Terms.{scaled, products, negated, added, sums}
use Rattle.nc_polynomial.proofs.CoefficientLaws.{coefficient_of-added, coefficient_of-scaled}
use Rattle.nc_polynomial.proofs.Chains.{value_is, sized-value}

pub SamePolynomial-added : (p q : List Term) → SamePolynomial (added p q) (poly_sum p q)
SamePolynomial-added p q = record { at = λ w. coefficient_of-added w p q ∙ sym (coefficient_of-append p q w) }

pub SamePolynomial-scaled : (k : ℤ) (p : List Term) → SamePolynomial (scaled k p) (poly_multiple k p)
SamePolynomial-scaled k p = record { at = λ w. coefficient_of-scaled k p w ∙ sym (coefficient_of-multiple k p w) }

negsuc-zero-*ℤ : (z : ℤ) → neg_ℤ z ≡ negsuc 0 *ℤ z
negsuc-zero-*ℤ z = omega (arith, ints)

-- the sign of each coefficient is turned by the factor -1
pub negated-multiple : (p : List Term) → negated p ≡ poly_multiple (negsuc 0) p
negated-multiple [] = refl
negated-multiple (t ∷ p) = ap₂ (λ z rest. (z, t.1) ∷ rest) (negsuc-zero-*ℤ t.0) (negated-multiple p)

-- a sum that is within the range and the limits
pub merged_value : (p q v r : List Term) → checked (sums p q) (added p q) ≡ Ok v → sized v ≡ Ok r → SamePolynomial r (poly_sum p q)
merged_value p q v r merged limits = subst (λ x. SamePolynomial x (poly_sum p q)) (value_is (sums p q) (added p q) v merged ∙ sized-value v r limits) (SamePolynomial-added p q)

pub scaled_value : (k : ℤ) (p v r : List Term) → checked (products k p) (scaled k p) ≡ Ok v → sized v ≡ Ok r → SamePolynomial r (poly_multiple k p)
scaled_value k p v r products_fit limits = subst (λ x. SamePolynomial x (poly_multiple k p)) (value_is (products k p) (scaled k p) v products_fit ∙ sized-value v r limits) (SamePolynomial-scaled k p)

-- the sum of two multiples
pub combination_value : (a : ℤ) (p : List Term) (b : ℤ) (q left right r : List Term) → checked (products a p) (scaled a p) ≡ Ok left → checked (products b q) (scaled b q) ≡ Ok right
    → SamePolynomial r (poly_sum left right) → SamePolynomial r (poly_sum (poly_multiple a p) (poly_multiple b q))
combination_value a p b q left right r left_is right_is sum =
    Same_trans r (poly_sum left right) (poly_sum (poly_multiple a p) (poly_multiple b q)) sum
    (SamePolynomial-append left (poly_multiple a p) right (poly_multiple b q)
    (subst (λ x. SamePolynomial x (poly_multiple a p)) (value_is (products a p) (scaled a p) left left_is) (SamePolynomial-scaled a p))
    (subst (λ x. SamePolynomial x (poly_multiple b q)) (value_is (products b q) (scaled b q) right right_is) (SamePolynomial-scaled b q)))
