use Rattle.library_tests.proofs.Prelude.{take, All, IsOver}
use Rattle.library_tests.proofs.rules.read_letters.Given as goal

abbrev pub invariant-loop-term : goal.invariant-loop-term
invariant-loop-term g l = All (λ t. IsOver (g.O.WordOrder.letters l.order) t.1) (take l.term-index l.terms)
