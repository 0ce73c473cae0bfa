use Rattle.model_text.proofs.Prelude.{◌≡◌, drop, matrix_in}
use Rattle.model_text.proofs.finish.matrix_in.Given as goal

-- those that are left say the same
abbrev pub invariant-loop-entry : goal.invariant-loop-entry
invariant-loop-entry l = matrix_in (drop l.entry-index l.entries) l.letter ≡ matrix_in l.entries l.letter
