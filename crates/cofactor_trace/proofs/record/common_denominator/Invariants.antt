use Rattle.cofactor_trace.proofs.Prelude.{◌≡◌, ◌<ℤ◌, pos, drop, IsCoefficient, first_overflow, multiple_products, denominators, common_multiple, known_from}
use Rattle.cofactor_trace.proofs.record.common_denominator.Given as goal

abbrev pub invariant-loop-row : goal.invariant-loop-row
invariant-loop-row l = record {
  products : first_overflow (multiple_products l.common (denominators (known_from l.expansions.entries) (drop l.row-index l.rows)))
      ≡ first_overflow (multiple_products (pos 1) (denominators (known_from l.expansions.entries) l.rows));
  value : common_multiple l.common (denominators (known_from l.expansions.entries) (drop l.row-index l.rows))
      ≡ common_multiple (pos 1) (denominators (known_from l.expansions.entries) l.rows);
  positive : pos 0 <ℤ l.common;
  in_range : IsCoefficient l.common;
}
