-- Sums and differences are combinations with the factors 1 and -1.
use Rattle.std.proofs.Common.{◌≡◌, ◌≢◌, ℤ, pos, negsuc, ◌*ℤ◌, List, [], ◌∷◌, None, Ok, sym, refl, ap, ap₂, subst, ◌∙◌, arith}
use Rattle.std.proofs.lemmas.Int.{ints}
use Rattle.std.proofs.lemmas.List.Elements.{All-tail}
use Rattle.std.specs.List.{All}
use Rattle.definitions.specs.Poly.{Term, SamePolynomial, poly_sum, poly_multiple}
use Rattle.coef_int.specs.Operations.{product_of, first_overflow}
use Rattle.coef_int.specs.Range.{IsCoefficient}
use Rattle.nc_polynomial.specs.Arithmetic.{combined, sum_result, difference_result}
use Rattle.nc_polynomial.specs.Faults.{checked, unless_overflow}
use Rattle.nc_polynomial.specs.Shape.{IsShaped}
use Rattle.nc_polynomial.specs.Terms.{scaled, products, negated, added, sums}
use Rattle.nc_polynomial.proofs.Chains.{first-fits, passed_sum, finished-value}
use Rattle.nc_polynomial.proofs.Kept.{scaled_by_nonzero}
use Rattle.nc_polynomial.proofs.Shapes.{IsInRange, shaped-negated}
use Rattle.nc_polynomial.proofs.Values.{SamePolynomial-added, negated-multiple}

pub one-*ℤ : (z : ℤ) → pos 1 *ℤ z ≡ z
one-*ℤ z = omega (arith, ints)

multiple-one : (p : List Term) → poly_multiple (pos 1) p ≡ p
multiple-one [] = refl
multiple-one (t ∷ p) = ap₂ (λ z rest. (z, t.1) ∷ rest) (one-*ℤ t.0) (multiple-one p)

products-fit : (k : ℤ) (p : List Term) → All (λ t. IsCoefficient t.0) (poly_multiple k p) → first_overflow (products k p) ≡ None
products-fit k [] h = refl
products-fit k (t ∷ p) h = first-fits (product_of k t.0) (products k p) (h 0 (k *ℤ t.0, t.1) (omega arith)) ∙ products-fit k p (All-tail IsInRange (k *ℤ t.0, t.1) (poly_multiple k p) h)

-- a multiple that is a polynomial with the same words
multiple_fits : (k : ℤ) (p r : List Term) → k ≢ pos 0 → poly_multiple k p ≡ r → IsShaped p → IsShaped r → checked (products k p) (scaled k p) ≡ Ok r
multiple_fits k p r nonzero e h s =
    let fits = products-fit k p (subst (All IsInRange) (sym e) s.in_range) in
    ap (λ o. unless_overflow o (Ok (scaled k p))) fits ∙ ap Ok (sym (scaled_by_nonzero k nonzero p h.nonzero) ∙ e)

pub once_fits : (p : List Term) → IsShaped p → checked (products (pos 1) p) (scaled (pos 1) p) ≡ Ok p
once_fits p h = multiple_fits (pos 1) p p (λ e. cc) (multiple-one p) h h

negative_fits : (p : List Term) → IsShaped p → checked (products (negsuc 0) p) (scaled (negsuc 0) p) ≡ Ok (negated p)
negative_fits p h = multiple_fits (negsuc 0) p (negated p) (λ e. cc) (sym (negated-multiple p)) h (shaped-negated p h)

pub sum_is : (p q : List Term) → IsShaped p → IsShaped q → combined (pos 1) p (pos 1) q ≡ sum_result p q
sum_is p q h k = passed_sum (pos 1) p (pos 1) q p q (once_fits p h) (once_fits q k)

pub difference_is : (p q : List Term) → IsShaped p → IsShaped q → combined (pos 1) p (negsuc 0) q ≡ difference_result p q
difference_is p q h k = passed_sum (pos 1) p (negsuc 0) q p (negated q) (once_fits p h) (negative_fits q k)

pub sum_value : (p q r : List Term) → sum_result p q ≡ Ok r → SamePolynomial r (poly_sum p q)
sum_value p q r e = subst (λ x. SamePolynomial x (poly_sum p q)) (finished-value (sums p q) (added p q) r e) (SamePolynomial-added p q)

pub difference_value : (p q r : List Term) → difference_result p q ≡ Ok r → SamePolynomial r (poly_sum p (poly_multiple (negsuc 0) q))
difference_value p q r e = subst (λ x. SamePolynomial r (poly_sum p x)) (negated-multiple q) (sum_value p (negated q) r e)
