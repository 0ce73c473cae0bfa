-- The terms of which a multiple is made: none for the factor zero, else all.
use Rattle.std.proofs.Common.{◌≡◌, ◌≢◌, ℤ, pos, ◌*ℤ◌, List, [], ◌∷◌, sym, refl, ap, ap₂, ◌∙◌, mul-pos, arith}
use Rattle.std.proofs.Math.IntN.{zero-*ℤ}
use Rattle.std.proofs.lemmas.Int.{unsigned_abs-mul}
use Rattle.std.proofs.lemmas.List.Elements.{All-tail}
use Rattle.std.specs.Int.RustNames.{unsigned_abs}
use Rattle.std.specs.List.{All}
use Rattle.definitions.specs.Poly.{Term, poly_multiple}
use Rattle.nc_polynomial.specs.Terms.{keep, scaled}
use Rattle.nc_polynomial.proofs.Checked.{keep-nonzero}
use Rattle.nc_polynomial.proofs.Divisors.{abs_positive}
use Rattle.nc_polynomial.proofs.Shapes.{IsNonzero}

pub product_nonzero : (k z : ℤ) → k ≢ pos 0 → z ≢ pos 0 → k *ℤ z ≢ pos 0
product_nonzero k z left right e =
    let size = unsigned_abs-mul k z in
    let both = mul-pos (abs_positive k left) (abs_positive z right) in
    let none : unsigned_abs (k *ℤ z) ≡ 0 = ap unsigned_abs e in
    absurd (omega arith)

pub scaled_by_zero : (p : List Term) → scaled (pos 0) p ≡ []
scaled_by_zero [] = refl
scaled_by_zero (t ∷ p) = ap₂ (λ z rest. keep z t.1 rest) (zero-*ℤ t.0) (scaled_by_zero p)

module _ (k : ℤ) (nonzero : k ≢ pos 0) where
  pub scaled_by_nonzero : (p : List Term) → All (λ t. t.0 ≢ pos 0) p → poly_multiple k p ≡ scaled k p
  scaled_by_nonzero [] h = refl
  scaled_by_nonzero (t ∷ p) h =
      sym (keep-nonzero (k *ℤ t.0) t.1 (scaled k p) (product_nonzero k t.0 nonzero (h 0 t (omega arith))) ∙ ap (λ rest. (k *ℤ t.0, t.1) ∷ rest) (sym (scaled_by_nonzero p (All-tail IsNonzero t p h))))
