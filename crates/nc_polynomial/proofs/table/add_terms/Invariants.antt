use Rattle.nc_polynomial.proofs.Prelude.{◌≡◌, ℕ, List, ◌++◌, ◌+ℤ◌, length, IsOrdered, into_iter_items, into_iter_len, first_overflow, word_cmp, coefficient_of, coefficient_in, IsRunning}
use Rattle.nc_polynomial.proofs.TableSums.{sums_with}
use Rattle.nc_polynomial.proofs.table.add_terms.Given as goal

-- the terms that were taken are added, and none of their sums overflowed
abbrev pub invariant-loop-coefficient : goal.invariant-loop-coefficient
invariant-loop-coefficient l = record {
  splits : l.yielded ++ into_iter_items l.coefficient-iterator ≡ l.fn.terms;
  left : into_iter_len l.coefficient-iterator ≡ length (into_iter_items l.coefficient-iterator);
  running : IsRunning l.table;
  ordered : IsOrdered word_cmp l.table;
  coefficients : (w : List ℕ) → coefficient_in l.table w ≡ coefficient_in l.initial.table w +ℤ coefficient_of l.yielded w;
  rest : first_overflow (sums_with (coefficient_in l.initial.table) l.fn.terms) ≡ first_overflow (sums_with (coefficient_in l.initial.table) (into_iter_items l.coefficient-iterator));
}
