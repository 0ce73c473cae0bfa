-- Multiples by the number below all coefficients.
use Rattle.expressions.proofs.Prelude.{◌≡◌, ◌≢◌, ◌≤◌, ◌*◌, ℕ, zero, suc, ℤ, pos, negsuc, neg_ℤ, ◌*ℤ◌, false, cond, nat_lt, List, [], ◌∷◌, slice_get, Some, Err, refl, ap, ◌∙◌, arith, le-ltb, negsuc-*ℤ-pos, negsuc-*ℤ-negsuc, unsigned_abs, All, is_coefficient, product_of, first_overflow, Poly, Term, scaled, products, unless_overflow, sized, multiple_result}
use Rattle.nc_polynomial.specs.declared.fault.PolyFault.TheVariants as fault

at_least : (a n : ℕ) → a ≤ a * suc n
at_least a n = omega arith

abs-neg : (n : ℕ) → unsigned_abs (neg_ℤ (pos n)) ≡ n
abs-neg zero = refl
abs-neg (suc n) = refl

-- no multiple by a negative number is nearer to zero, but that of zero
far_from_zero : (m : ℕ) (z : ℤ) → z ≢ pos 0 → nat_lt (unsigned_abs (negsuc m *ℤ z)) (suc m) ≡ false
far_from_zero m (pos zero) h = absurd (h refl)
far_from_zero m (pos (suc n)) h = ap (λ x. nat_lt (unsigned_abs x) (suc m)) (negsuc-*ℤ-pos m (suc n)) ∙ ap (λ x. nat_lt x (suc m)) (abs-neg (suc m * suc n)) ∙ le-ltb (suc m * suc n) (suc m) (at_least (suc m) n)
far_from_zero m (negsuc n) h = ap (λ x. nat_lt (unsigned_abs x) (suc m)) (negsuc-*ℤ-negsuc m n) ∙ le-ltb (suc m * suc n) (suc m) (at_least (suc m) n)

abbrev pub least : ℤ
least = negsuc 170141183460469231731687303715884105727

overflows : (z : ℤ) → z ≢ pos 0 → is_coefficient (least *ℤ z) ≡ false
overflows z h = far_from_zero 170141183460469231731687303715884105727 z h

pub least-multiple : (p : Poly) (x : ℤ) (w : List ℕ) → All (λ t. t.0 ≢ pos 0) p → slice_get p 0 ≡ Some (x, w) → multiple_result least p ≡ Err (fault.Overflow (product_of least x))
least-multiple [] x w nonzero first = absurd (cc)
least-multiple (t ∷ p) x w nonzero first =
    let same : t ≡ (x, w) = cc in
    ap (λ b. unless_overflow (cond b (first_overflow (products least p)) (Some (product_of least t.0))) (sized (scaled least (t ∷ p)))) (overflows t.0 (nonzero 0 t (omega arith)))
    ∙ ap (λ (u : Term). Err (fault.Overflow (product_of least u.0))) same
