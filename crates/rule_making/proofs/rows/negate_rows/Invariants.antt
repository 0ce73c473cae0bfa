use Rattle.rule_making.proofs.Prelude.{◌≡◌, ◌++◌, map, take, drop, All, IsCoefficient, negated_row}
use Rattle.rule_making.proofs.rows.negate_rows.Given as goal

abbrev pub invariant-loop-row : goal.invariant-loop-row
invariant-loop-row l = record {
  so_far : l.row-items ≡ map negated_row (take l.row-index l.fn.rows) ++ drop l.row-index l.fn.rows;
  in_range : All (λ r. IsCoefficient r.coef) l.row-items;
}
