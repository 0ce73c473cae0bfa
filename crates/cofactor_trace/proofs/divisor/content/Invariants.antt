use Rattle.cofactor_trace.proofs.Prelude.{◌≡◌, ◌<ℤ◌, pos, drop, IsCoefficient, content_of}
use Rattle.cofactor_trace.proofs.divisor.content.Given as goal

abbrev pub invariant-loop-row : goal.invariant-loop-row
invariant-loop-row l = record {
  same : content_of l.content (drop l.row-index l.rows) ≡ content_of l.denominator l.rows;
  in_range : IsCoefficient l.content;
  positive : pos 0 <ℤ l.content;
}
