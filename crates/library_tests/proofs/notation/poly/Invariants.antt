use Rattle.library_tests.proofs.Prelude.{All, IsCoefficient}
use Rattle.library_tests.proofs.notation.poly.Given as goal

abbrev pub invariant-loop-value : goal.invariant-loop-value
invariant-loop-value g l = All (λ t. IsCoefficient t.0) l.list.items
