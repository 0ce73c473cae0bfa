use Rattle.expressions.proofs.Prelude.{◌≡◌, ◌++◌, map, drop, Ok, ◌>>=◌, factor_poly}
use Rattle.expressions.proofs.Trees.{each, summand}
use Rattle.expressions.proofs.Totals.{SoFar}
use Rattle.expressions.proofs.polynomial.+polys.Given as goal

abbrev pub invariant-sum_poly-loop-term : goal.invariant-sum_poly-loop-term
invariant-sum_poly-loop-term l =
    (each (summand l.quiver) (drop l.term-index l.term-items) >>= λ rest. Ok (map (λ s. (s.0, s.1.terms)) l.summands.items ++ rest)) ≡ each (summand l.quiver) l.term-items

abbrev pub invariant-running_total-loop-term : goal.invariant-running_total-loop-term
invariant-running_total-loop-term l = SoFar l.quiver l.term-items l.term-index l.so_far

abbrev pub invariant-term_poly-loop-factor : goal.invariant-term_poly-loop-factor
invariant-term_poly-loop-factor l =
    (each (factor_poly l.quiver) (drop l.factor-index l.factors) >>= λ rest. Ok (map (λ p. p.terms) l.polys.items ++ rest)) ≡ each (factor_poly l.quiver) l.factors
