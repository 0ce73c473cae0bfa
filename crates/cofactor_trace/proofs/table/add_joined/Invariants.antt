use Rattle.cofactor_trace.proofs.Prelude.{◌≡◌, drop, map, All, values_of, product_of, first_overflow, joined_row, IsInRange, with_rows}
use Rattle.cofactor_trace.proofs.table.add_joined.Given as goal

abbrev pub invariant-loop-row : goal.invariant-loop-row
invariant-loop-row l = record {
  sums_in : All IsInRange (values_of l.sums.entries);
  added : with_rows l.sums.entries (map (joined_row l.factor l.outer) (drop l.row-index l.inner)) ≡ with_rows l.initial.sums.entries (map (joined_row l.factor l.outer) l.inner);
  products : first_overflow (map (λ s. product_of l.factor s.coef) (drop l.row-index l.inner)) ≡ first_overflow (map (λ s. product_of l.factor s.coef) l.inner);
}
