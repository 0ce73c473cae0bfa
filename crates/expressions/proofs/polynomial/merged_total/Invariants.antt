use Rattle.expressions.proofs.Prelude.{◌≡◌, length, into_iter_items, into_iter_len, total}
use Rattle.expressions.specs.Polynomials.{sum_from}
use Rattle.expressions.proofs.PolynomialLoops.{summands_of}
use Rattle.expressions.proofs.polynomial.merged_total.Given as goal

-- the summands that are left, after the sum so far, make the whole sum
abbrev pub invariant-loop-negative : goal.invariant-loop-negative
invariant-loop-negative l = record {
  left : into_iter_len l.negative-iterator ≡ length (into_iter_items l.negative-iterator);
  rest : sum_from l.sum.terms (summands_of (into_iter_items l.negative-iterator)) ≡ total (summands_of l.fn.summands.items);
}
