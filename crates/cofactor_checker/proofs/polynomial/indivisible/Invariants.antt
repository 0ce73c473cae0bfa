use Rattle.cofactor_checker.proofs.Prelude.{ℕ, ℤ, List, length, unsigned_abs, DividesEach, IsLeastIndivisible}
use Rattle.cofactor_checker.proofs.polynomial.indivisible.Given as goal

abbrev pub invariant-loop-term : goal.invariant-loop-term
invariant-loop-term l = record {
  found : (word : List ℕ) (got : ℤ) → IsLeastIndivisible l.scale l.rest word got → IsLeastIndivisible l.scale l.terms word got;
  none : DividesEach (unsigned_abs l.scale) l.rest → DividesEach (unsigned_abs l.scale) l.terms;
}

abbrev pub decreases-loop-term : goal.decreases-loop-term
decreases-loop-term l = length l.rest
