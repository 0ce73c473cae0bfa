use Rattle.cofactor_trace.proofs.Prelude.{◌≡◌, btree_map_len, All, values_of, IsCoefficient, IsInRange, rows_in}
use Rattle.cofactor_trace.proofs.Gathering.{behind}
use Rattle.cofactor_trace.proofs.table.nonzero_rows.Given as goal

abbrev pub invariant-loop-multiple : goal.invariant-loop-multiple
invariant-loop-multiple l = record {
  sums_in : All IsInRange (values_of l.sums.entries);
  rows_in_range : All (λ r. IsCoefficient r.coef) l.rows;
  same : behind l.rows (rows_in l.sums.entries) ≡ rows_in l.fn.sums.entries;
}

abbrev pub decreases-loop-multiple : goal.decreases-loop-multiple
decreases-loop-multiple l = btree_map_len l.sums
