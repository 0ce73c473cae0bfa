use Rattle.matrix_models.proofs.Prelude.{length}
use Rattle.matrix_models.proofs.BackSolving.{IsSolvedTo}
use Rattle.matrix_models.proofs.pivots.Pivots.values.Given as goal

-- the values so far are what is asked of them
abbrev pub invariant-loop-place : goal.invariant-loop-place
invariant-loop-place l = IsSolvedTo l.self.modulus (length l.self.rows) l.place l.self.rows l.prefer l.values.items
