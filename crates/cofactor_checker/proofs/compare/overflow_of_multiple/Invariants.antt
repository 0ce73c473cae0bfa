use Rattle.cofactor_checker.proofs.Prelude.{◌≡◌, drop, first_overflow, products}
use Rattle.cofactor_checker.proofs.compare.overflow_of_multiple.Given as goal

abbrev pub invariant-loop-term : goal.invariant-loop-term
invariant-loop-term l = first_overflow (products l.denominator (drop l.term-index l.claim)) ≡ first_overflow (products l.denominator l.claim)
