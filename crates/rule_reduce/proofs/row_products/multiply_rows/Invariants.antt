use Rattle.rule_reduce.proofs.Prelude.{◌≡◌, ◌++◌, map, take, drop, All, IsCoefficient, first_overflow, multiplied_row, row_operations}
use Rattle.rule_reduce.proofs.row_products.multiply_rows.Given as goal

abbrev pub invariant-loop-row : goal.invariant-loop-row
invariant-loop-row l = record {
  so_far : l.row-items ≡ map (multiplied_row l.by) (take l.row-index l.fn.rows) ++ drop l.row-index l.fn.rows;
  in_range : All (λ r. IsCoefficient r.coef) l.row-items;
  none_yet : first_overflow (row_operations l.fn.rows l.by) ≡ first_overflow (row_operations (drop l.row-index l.fn.rows) l.by);
}
