use Rattle.expressions.proofs.Prelude.{◌≡◌, take, adjoint_poly, quiver_of}
use Rattle.expressions.proofs.powers.adjoint.Given as goal

abbrev pub invariant-loop-term : goal.invariant-loop-term
invariant-loop-term l = l.terms.items ≡ adjoint_poly (quiver_of l.quiver) (take l.term-index l.term-items)
