use Rattle.block_text.proofs.Prelude.{◌≡◌, ◌+◌, ◌-◌, ◌≤◌, length, drop, prefix_len, is_plain}
use Rattle.block_text.proofs.cut.run_len.Given as goal

abbrev pub decreases-loop-count : goal.decreases-loop-count
decreases-loop-count l = length l.text - l.count

abbrev pub invariant-loop-count : goal.invariant-loop-count
invariant-loop-count l = record {
  within : l.count ≤ length l.text;
  same : l.count + prefix_len is_plain (drop l.count l.text) ≡ prefix_len is_plain l.text;
}
