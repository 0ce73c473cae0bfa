-- The polynomials that the code makes itself are within the limits.
use Rattle.expressions.proofs.Prelude.{◌≡◌, ◌≤◌, length, arith, length-map, All-map, All, IsCoefficient, Poly, Term, Quiver, adjoint_poly, negated, IsCanonical, shaped-negated}
use Rattle.expressions.proofs.Words.{words-negated}

pub canonical-negated : (p : Poly) → IsCanonical p → IsCanonical (negated p)
canonical-negated p h =
    let same : length (negated p) ≡ length p = length-map p _ in
    record {
      shaped = shaped-negated p h.shaped;
      short = words-negated (λ w. length w ≤ 500) p h.short;
      few = omega (arith, same, h.few);
    }

-- an adjoint has the same coefficients
pub in_range-adjoint_poly : (q : Quiver) (p : Poly) → All (λ t. IsCoefficient t.0) p → All (λ t. IsCoefficient t.0) (adjoint_poly q p)
in_range-adjoint_poly q p h = All-map (λ (t : Term). IsCoefficient t.0) _ p h
