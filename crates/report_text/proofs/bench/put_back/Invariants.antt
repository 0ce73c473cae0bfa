use Rattle.report_text.proofs.Prelude.{◌≡◌, ◌++◌, codes, ◌-◌, flat_map, range_with_len, numbered}
use Rattle.report_text.proofs.bench.put_back.Given as goal

abbrev pub invariant-loop-place : goal.invariant-loop-place
invariant-loop-place l = l.out.items ≡ l.initial.out.items ++ flat_map (λ place. numbered (codes " r") (l.size - place)) (range_with_len 0 l.place)
