use Rattle.cofactor_trace.proofs.Prelude.{◌≡◌, ℤ, drop, map, joined_row, measured_all}
use Rattle.cofactor_trace.proofs.size.measure_joined.Given as goal

abbrev pub invariant-loop-row : goal.invariant-loop-row
invariant-loop-row l = (k : ℤ) → measured_all l.size (map (joined_row k l.outer) (drop l.row-index l.inner)) ≡ measured_all l.fn.size (map (joined_row k l.outer) l.inner)
