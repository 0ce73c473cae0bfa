use Rattle.library_tests.proofs.Prelude.{◌<◌, length}
use Rattle.library_tests.proofs.matching.random.Given as goal

abbrev pub invariant-loop : goal.invariant-loop
invariant-loop g l = 0 < length l.word
