use Rattle.library_tests.proofs.Prelude.{◌<◌, ◌+◌, All}
use Rattle.library_tests.proofs.matching.words_with_one_beginning.Given as goal

abbrev pub invariant-loop-number : goal.invariant-loop-number
invariant-loop-number g l = All (λ e. e.1 < l.number + 1) l.index
