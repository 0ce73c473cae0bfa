use Rattle.library_tests.proofs.Prelude.{◌<◌, All}
use Rattle.library_tests.proofs.matching.compare_all.Given as goal

abbrev pub invariant-loop-number : goal.invariant-loop-number
invariant-loop-number g l = All (λ e. e.1 < l.number) l.index
