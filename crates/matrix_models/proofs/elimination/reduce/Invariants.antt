use Rattle.matrix_models.proofs.Reducing.{IsReducedTo}
use Rattle.matrix_models.proofs.elimination.reduce.Given as goal

-- how far the row is reduced
abbrev pub invariant-loop-first : goal.invariant-loop-first
invariant-loop-first l = IsReducedTo l.modulus l.pivots l.row l.first l.left l.wide

abbrev pub decreases-loop-first : goal.decreases-loop-first
decreases-loop-first l = l.left
