use Rattle.closed_checker.proofs.Prelude.{GeneratorsPass}
use Rattle.closed_checker.proofs.check.reduce_generators.Given as goal

abbrev pub invariant-loop-place : goal.invariant-loop-place
invariant-loop-place l = GeneratorsPass l.problem l.basis l.place
