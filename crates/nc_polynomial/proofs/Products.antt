-- Products of polynomials.
use Rattle.std.proofs.Common.{◌≡◌, ℕ, ◌≤◌, ℤ, pos, ◌+ℤ◌, ◌*ℤ◌, false, nat_lt, List, [], ◌∷◌, ◌++◌, length, map, Some, None, Ok, Err, sym, refl, ap, ap₂, subst, ◌∙◌, arith}
use Rattle.std.proofs.Math.IntN.{+ℤ_idl, +ℤ_idr, +ℤ_assoc}
use Rattle.std.proofs.lemmas.Bool.{or_parts, ltb-false}
use Rattle.std.proofs.lemmas.Bool.Decides.{nat_tests}
use Rattle.std.proofs.lemmas.List.{append-nil}
use Rattle.std.proofs.lemmas.List.Elements.{All-nil, All-cons}
use Rattle.std.specs.List.{All}
use Rattle.definitions.proofs.Coefficients.{coefficient_of-append, coefficient_of-multiple}
use Rattle.definitions.specs.Poly.{Term, SamePolynomial, coefficient_of, poly_multiple, poly_between, poly_product}
use Rattle.coef_int.specs.Operations.{product_of, first_overflow}
use Rattle.nc_polynomial.specs.Arithmetic.{combined, sum_result}
use Rattle.nc_polynomial.specs.Faults.{Explains, checked, unless_overflow, finished, sized, has_long_word}
use Rattle.nc_polynomial.specs.Product.{and_then, product_step, product_from}
use Rattle.nc_polynomial.specs.Shape.{IsShaped, IsCanonical}
use Rattle.nc_polynomial.specs.Terms.{keep, scaled, products, shifted, added, sums}
use Rattle.nc_polynomial.specs.declared.fault.PolyFault.{PolyFault}
use Rattle.nc_polynomial.proofs.Around.{shaped-between}
use Rattle.nc_polynomial.proofs.Chains.{first-append, or_first, none_overflows, value_is, passes, explains-itself, explains-first, sized-value, finished-value}
use Rattle.nc_polynomial.proofs.CoefficientLaws.{coefficient_of-added, coefficient_of-scaled}
use Rattle.nc_polynomial.proofs.Shapes.{all-scaled, shaped-scaled, shaped-added}
use Rattle.nc_polynomial.proofs.Units.{one-*ℤ, once_fits}

-- one step
pub scaled-between : (k : ℤ) (l : List ℕ) (p : List Term) (r : List ℕ) → scaled k (poly_between l p r) ≡ shifted k l p r
scaled-between k l [] r = refl
scaled-between k l (t ∷ p) r = ap (keep (k *ℤ t.0) (l ++ (t.1 ++ r))) (scaled-between k l p r)

products-between : (k : ℤ) (l : List ℕ) (p : List Term) (r : List ℕ) → products k (poly_between l p r) ≡ products k p
products-between k l [] r = refl
products-between k l (t ∷ p) r = ap (λ os. product_of k t.0 ∷ os) (products-between k l p r)

-- the multiple of a moved polynomial
pub shaped_shift : (k : ℤ) (l : List ℕ) (p : List Term) (r : List ℕ) (v : List Term) → IsShaped p → checked (products k p) (shifted k l p r) ≡ Ok v → IsShaped v
shaped_shift k l p r v h e =
    let fits : first_overflow (products k (poly_between l p r)) ≡ None = ap first_overflow (products-between k l p r) ∙ none_overflows (products k p) (shifted k l p r) v e in
    subst IsShaped (scaled-between k l p r ∙ value_is (products k p) (shifted k l p r) v e) (shaped-scaled k (poly_between l p r) fits (shaped-between l r p h))

-- 1 times the sum so far changes nothing and always fits
pub combined-one : (sum : List Term) (k : ℤ) (w : List ℕ) (q : List Term) → IsShaped sum → combined (pos 1) sum k (poly_between w q []) ≡ finished (products k q ++ sums sum (shifted k w q [])) (added sum (shifted k w q []))
combined-one sum k w q h =
    let itself = value_is (products (pos 1) sum) (scaled (pos 1) sum) sum (once_fits sum h) in
    let fits = none_overflows (products (pos 1) sum) (scaled (pos 1) sum) sum (once_fits sum h) in
    let moved = poly_between w q [] in
    ap (λ o. unless_overflow o (sized (added (scaled (pos 1) sum) (scaled k moved)))) (first-append (products (pos 1) sum) (products k moved ++ sums (scaled (pos 1) sum) (scaled k moved)) ∙ ap (λ o. or_first o (first_overflow (products k moved ++ sums (scaled (pos 1) sum) (scaled k moved)))) fits)
    ∙ ap₂ (λ os (parts : List Term × List Term). finished (os ++ sums parts.0 parts.1) (added parts.0 parts.1)) (products-between k w q []) (λ i. (itself i, scaled-between k w q [] i))

-- a step whose moved factor is within the limits
pub step_is : (sum : List Term) (k : ℤ) (w : List ℕ) (q : List Term) → IsShaped sum → sized (poly_between w q []) ≡ Ok (poly_between w q [])
    → product_step sum (k, w) q ≡ finished (products k q ++ sums sum (shifted k w q [])) (added sum (shifted k w q []))
step_is sum k w q h within = ap (λ r. and_then r (λ moved. combined (pos 1) sum k moved)) within ∙ combined-one sum k w q h

-- limits
abbrev IsShort : Term → Type 0
IsShort t = length t.1 ≤ 500

short_words : (p : List Term) → has_long_word p ≡ false → All IsShort p
short_words [] e = All-nil IsShort
short_words (t ∷ p) e = let parts = or_parts (nat_lt 500 (length t.1)) (has_long_word p) e in All-cons IsShort t p (ltb-false 500 (length t.1) parts.0) (short_words p parts.1)

-- what is left as it is by the limits is within them
pub canonical_sized : (p v : List Term) → IsShaped p → sized p ≡ Ok v → IsCanonical p
canonical_sized p v h e = record { shaped = h; short = short_words p (grind arith); few = grind (arith, nat_tests) }

-- a sum within the limits is canonical
pub canonical_sum : (p q v : List Term) → IsShaped p → IsShaped q → sum_result p q ≡ Ok v → IsCanonical v
canonical_sum p q v h k e =
    (elim (first_overflow (sums p q)) as (λ o. first_overflow (sums p q) ≡ o → unless_overflow o (sized (added p q)) ≡ Ok v → IsCanonical v) [
      | None ↦ λ fits limits. subst IsCanonical (sized-value (added p q) v limits) (canonical_sized (added p q) v (shaped-added p q fits h k) limits)
      | Some o ↦ λ over limits. absurd (cc)
    ]) refl e

-- the multiple of a moved polynomial within the limits has short words
pub short_shift : (k : ℤ) (w : List ℕ) (q v : List Term) → IsShaped q → sized (poly_between w q []) ≡ Ok (poly_between w q []) → checked (products k q) (shifted k w q []) ≡ Ok v → All (λ t. length t.1 ≤ 500) v
short_shift k w q v h within e =
    let moved = poly_between w q [] in
    let short = canonical_sized moved moved (shaped-between w [] q h) within in
    subst (All (λ t. length t.1 ≤ 500)) (scaled-between k w q [] ∙ value_is (products k q) (shifted k w q []) v e)
    (all-scaled (λ u. length u ≤ 500) k moved short.short)

-- where the moved factor is within the limits and its multiple fits, a step is a sum
pub step_adds : (sum : List Term) (k : ℤ) (w : List ℕ) (q v : List Term) → IsShaped sum → sized (poly_between w q []) ≡ Ok (poly_between w q []) → checked (products k q) (shifted k w q []) ≡ Ok v
    → product_step sum (k, w) q ≡ sum_result sum v
step_adds sum k w q v h within fits =
    let multiple = shifted k w q [] in
    step_is sum k w q h within
    ∙ passes (products k q) (sums sum multiple) multiple v (sized (added sum multiple)) fits
    ∙ ap (sum_result sum) (value_is (products k q) multiple v fits)

-- a step fails at the multiple
pub step_fails : (sum : List Term) (k : ℤ) (w : List ℕ) (q : List Term) (e : PolyFault) → IsShaped sum → sized (poly_between w q []) ≡ Ok (poly_between w q []) → Explains (checked (products k q) (shifted k w q [])) e
    → Explains (product_step sum (k, w) q) e
step_fails sum k w q e h within why =
    let multiple = shifted k w q [] in
    subst (λ r. Explains r e) (sym (step_is sum k w q h within)) (explains-first (products k q) (sums sum multiple) multiple (sized (added sum multiple)) e why)

-- a step fails at the limits of the moved factor
pub step_refuses : (sum : List Term) (k : ℤ) (w : List ℕ) (q : List Term) (e : PolyFault) → sized (poly_between w q []) ≡ Err e → Explains (product_step sum (k, w) q) e
step_refuses sum k w q e limits =
    explains-itself (product_step sum (k, w) q) e (ap (λ r. and_then r (λ moved. combined (pos 1) sum k moved)) limits)

-- what a product is
moved-row : (t : Term) (q : List Term) → map (λ u. (t.0 *ℤ u.0, t.1 ++ u.1)) q ≡ poly_multiple t.0 (poly_between t.1 q [])
moved-row t [] = refl
moved-row t (u ∷ q) = ap₂ (λ v (rest : List Term). (t.0 *ℤ u.0, t.1 ++ v) ∷ rest) (sym (append-nil u.1)) (moved-row t q)

combined-coefficient : (a : ℤ) (p : List Term) (b : ℤ) (q r : List Term) → combined a p b q ≡ Ok r → (w : List ℕ) → coefficient_of r w ≡ a *ℤ coefficient_of p w +ℤ b *ℤ coefficient_of q w
combined-coefficient a p b q r h w =
    ap (λ s. coefficient_of s w) (sym (finished-value (products a p ++ (products b q ++ sums (scaled a p) (scaled b q))) (added (scaled a p) (scaled b q)) r h))
    ∙ coefficient_of-added w (scaled a p) (scaled b q) ∙ ap₂ ◌+ℤ◌ (coefficient_of-scaled a p w) (coefficient_of-scaled b q w)

step-coefficient : (sum : List Term) (t : Term) (q v : List Term) → product_step sum t q ≡ Ok v → (w : List ℕ) → coefficient_of v w ≡ coefficient_of sum w +ℤ t.0 *ℤ coefficient_of (poly_between t.1 q []) w
step-coefficient sum t q v h w =
    (elim (sized (poly_between t.1 q [])) as (λ r. sized (poly_between t.1 q []) ≡ r → and_then r (λ moved. combined (pos 1) sum t.0 moved) ≡ Ok v → coefficient_of v w ≡ coefficient_of sum w +ℤ t.0 *ℤ coefficient_of (poly_between t.1 q []) w) [
      | Ok moved ↦ λ limits k.
          combined-coefficient (pos 1) sum t.0 moved v k w
          ∙ ap₂ (λ a b. a +ℤ t.0 *ℤ b) (one-*ℤ (coefficient_of sum w)) (ap (λ p. coefficient_of p w) (sym (sized-value (poly_between t.1 q []) moved limits)))
      | Err e ↦ λ limits k. absurd (cc)
    ]) refl h

pub coefficient_of-product_from : (sum p q r : List Term) → product_from sum p q ≡ Ok r → (w : List ℕ) → coefficient_of r w ≡ coefficient_of sum w +ℤ coefficient_of (poly_product p q) w
coefficient_of-product_from sum [] q r h w = let same : sum ≡ r = cc in ap (λ p. coefficient_of p w) (sym same) ∙ sym (+ℤ_idr (coefficient_of sum w))
coefficient_of-product_from sum (t ∷ p) q r h w =
    (elim (product_step sum t q) as (λ s. product_step sum t q ≡ s → and_then s (λ next. product_from next p q) ≡ Ok r → coefficient_of r w ≡ coefficient_of sum w +ℤ coefficient_of (poly_product (t ∷ p) q) w) [
      | Ok next ↦ λ step k.
          let rest = coefficient_of-product_from next p q r k w in
          let here : coefficient_of next w ≡ coefficient_of sum w +ℤ t.0 *ℤ coefficient_of (poly_between t.1 q []) w = step-coefficient sum t q next step w in
          let row : coefficient_of (map (λ u. (t.0 *ℤ u.0, t.1 ++ u.1)) q) w ≡ t.0 *ℤ coefficient_of (poly_between t.1 q []) w = ap (λ x. coefficient_of x w) (moved-row t q) ∙ coefficient_of-multiple t.0 (poly_between t.1 q []) w in
          let whole : coefficient_of (poly_product (t ∷ p) q) w ≡ coefficient_of (map (λ u. (t.0 *ℤ u.0, t.1 ++ u.1)) q) w +ℤ coefficient_of (poly_product p q) w = coefficient_of-append (map (λ u. (t.0 *ℤ u.0, t.1 ++ u.1)) q) (poly_product p q) w in
          rest ∙ ap (λ x. x +ℤ coefficient_of (poly_product p q) w) here
          ∙ +ℤ_assoc (coefficient_of sum w) (t.0 *ℤ coefficient_of (poly_between t.1 q []) w) (coefficient_of (poly_product p q) w)
          ∙ ap (λ x. coefficient_of sum w +ℤ x) (ap (λ x. x +ℤ coefficient_of (poly_product p q) w) (sym row) ∙ sym whole)
      | Err e ↦ λ step k. absurd (cc)
    ]) refl h

pub product_value : (p q r : List Term) → product_from [] p q ≡ Ok r → SamePolynomial r (poly_product p q)
product_value p q r h = record { at = λ w. coefficient_of-product_from [] p q r h w ∙ +ℤ_idl (coefficient_of (poly_product p q) w) }
