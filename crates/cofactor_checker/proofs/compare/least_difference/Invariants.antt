use Rattle.cofactor_checker.proofs.Comparing.{Compares}
use Rattle.cofactor_checker.proofs.compare.least_difference.Given as goal

abbrev pub invariant-loop-word : goal.invariant-loop-word
invariant-loop-word l = Compares l.sum l.denominator l.claim l.rest l.word-iterator
