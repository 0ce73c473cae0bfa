use Rattle.report_text.proofs.Prelude.{◌≡◌, ◌++◌, flat_map, range_with_len, assumption_of_step}
use Rattle.report_text.proofs.bench.put_assumptions.Given as goal

abbrev pub invariant-loop-step : goal.invariant-loop-step
invariant-loop-step l = l.out.items ≡ l.initial.out.items ++ flat_map assumption_of_step (range_with_len 1 l.step)
