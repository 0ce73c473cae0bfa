use Rattle.report_text.proofs.Prelude.{◌≡◌, ◌++◌, codes, flat_map, range_with_len, numbered}
use Rattle.report_text.proofs.bench.put_there.Given as goal

abbrev pub invariant-loop-step : goal.invariant-loop-step
invariant-loop-step l = l.out.items ≡ l.initial.out.items ++ flat_map (numbered (codes " a")) (range_with_len 1 l.step)
