-- The number that a call takes for a coefficient.
use Rattle.traced_rows.proofs.Prelude.{rules, ◌≡◌, ℤ, to_z, of_z, IsCoefficient}
use mir.Syntax.{w128}

pub same_number : (z : ℤ) → IsCoefficient z → to_z w128 (of_z w128 z) ≡ z
same_number z fits = search rules
