use Rattle.model_candidates.proofs.Prelude.{take, All, IsSide}
use Rattle.model_candidates.proofs.shapes.check_shape.Given as goal

-- the sides that were passed are sides
abbrev pub invariant-loop-place : goal.invariant-loop-place
invariant-loop-place l = All IsSide (take l.place l.shape.sides)
