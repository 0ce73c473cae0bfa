use Rattle.matrix_models.proofs.Prelude.{StandFor}
use Rattle.matrix_models.proofs.Reduction.{front}
use Rattle.matrix_models.proofs.greedy.pivots_of.Given as goal

-- the pivots stand for the equations so far
abbrev pub invariant-loop-equation : goal.invariant-loop-equation
invariant-loop-equation l = StandFor l.pivots (front l.equation-index l.system)
