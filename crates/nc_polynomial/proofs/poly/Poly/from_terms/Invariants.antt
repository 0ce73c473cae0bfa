use Rattle.nc_polynomial.proofs.Prelude.{◌≡◌, ℕ, List, [], take, drop, IsOrdered, IsCoefficient, first_overflow, coefficient_of, word_cmp, additions, coefficient_in}
use Rattle.nc_polynomial.proofs.poly.Poly.from_terms.Given as goal

-- the table has the sums of the terms that were passed, and none of them overflowed
abbrev pub invariant-loop-term : goal.invariant-loop-term
invariant-loop-term l = record {
  ordered : IsOrdered word_cmp l.table;
  coefficients : (w : List ℕ) → coefficient_in l.table w ≡ coefficient_of (take l.term-index l.terms) w;
  in_range : (w : List ℕ) → IsCoefficient (coefficient_in l.table w);
  rest : first_overflow (additions [] l.terms) ≡ first_overflow (additions (take l.term-index l.terms) (drop l.term-index l.terms));
}
