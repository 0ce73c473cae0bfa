use Rattle.cofactor_trace.proofs.Prelude.{◌≡◌, ◌++◌, length, map, All, into_iter_items, into_iter_len, IsCoefficient, divided_row}
use Rattle.cofactor_trace.proofs.divisor.divide_rows.Given as goal

-- the rows so far, and those that are left as they will be
abbrev pub invariant-loop-row : goal.invariant-loop-row
invariant-loop-row l = record {
  left : into_iter_len l.row-iterator ≡ length (into_iter_items l.row-iterator);
  rest_in : All (λ r. IsCoefficient r.coef) (into_iter_items l.row-iterator);
  divided_in : All (λ r. IsCoefficient r.coef) l.divided;
  same : l.divided ++ map (divided_row l.by) (into_iter_items l.row-iterator) ≡ map (divided_row l.by) l.fn.rows;
}
