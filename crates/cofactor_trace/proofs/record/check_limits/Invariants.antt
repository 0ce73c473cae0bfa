use Rattle.cofactor_trace.proofs.Prelude.{◌≡◌, drop, joined, known_from, measured_all}
use Rattle.cofactor_trace.proofs.SizeLaws.{no_size}
use Rattle.cofactor_trace.proofs.record.check_limits.Given as goal

abbrev pub invariant-loop-row : goal.invariant-loop-row
invariant-loop-row l = measured_all l.size (joined (known_from l.expansions.entries) l.fn.common (drop l.row-index l.rows)) ≡ measured_all no_size (joined (known_from l.expansions.entries) l.fn.common l.rows)
