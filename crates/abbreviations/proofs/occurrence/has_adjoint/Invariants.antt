use Rattle.abbreviations.proofs.Prelude.{◌≡◌, drop, list_any, is_adjoint}
use Rattle.abbreviations.proofs.occurrence.has_adjoint.Given as goal

abbrev pub invariant-loop-mark : goal.invariant-loop-mark
invariant-loop-mark l = list_any is_adjoint (drop l.mark-index l.marks) ≡ list_any is_adjoint l.marks
