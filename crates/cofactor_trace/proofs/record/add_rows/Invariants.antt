use Rattle.cofactor_trace.proofs.Prelude.{◌≡◌, [], drop, All, values_of, first_overflow, joined, joined_products, known_from, IsInRange, with_rows}
use Rattle.cofactor_trace.proofs.record.add_rows.Given as goal

abbrev pub invariant-loop-row : goal.invariant-loop-row
invariant-loop-row l = record {
  sums_in : All IsInRange (values_of l.sums.entries);
  added : with_rows l.sums.entries (joined (known_from l.expansions.entries) l.common (drop l.row-index l.rows)) ≡ with_rows [] (joined (known_from l.expansions.entries) l.common l.rows);
  products : first_overflow (joined_products (known_from l.expansions.entries) l.common (drop l.row-index l.rows)) ≡ first_overflow (joined_products (known_from l.expansions.entries) l.common l.rows);
}
