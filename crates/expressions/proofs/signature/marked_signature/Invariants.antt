use Rattle.expressions.proofs.Prelude.{◌≡◌, drop, marked_signature}
use Rattle.expressions.proofs.signature.marked_signature.Given as goal

abbrev pub invariant-loop-mark : goal.invariant-loop-mark
invariant-loop-mark l = marked_signature l.first (drop l.mark-index l.marks) l.marked ≡ marked_signature l.first l.marks l.initial.marked
