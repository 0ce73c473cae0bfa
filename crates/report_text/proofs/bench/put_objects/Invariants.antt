use Rattle.report_text.proofs.Prelude.{◌≡◌, ◌++◌, codes, flat_map, range_with_len, numbered}
use Rattle.report_text.proofs.bench.put_objects.Given as goal

abbrev pub invariant-loop-object : goal.invariant-loop-object
invariant-loop-object l = l.out.items ≡ l.initial.out.items ++ flat_map (numbered (codes " O")) (range_with_len 0 l.object)
