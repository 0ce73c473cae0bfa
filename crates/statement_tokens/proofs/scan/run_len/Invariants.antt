use Rattle.statement_tokens.proofs.Prelude.{◌≡◌, ◌+◌, ◌-◌, ◌≤◌, length, drop, prefix_len, is_in}
use Rattle.statement_tokens.proofs.scan.run_len.Given as goal

abbrev pub invariant-loop-count : goal.invariant-loop-count
invariant-loop-count l = record {
  within : l.count ≤ length l.text;
  same : l.count + prefix_len (is_in l.class) (drop l.count l.text) ≡ prefix_len (is_in l.class) l.text;
}

abbrev pub decreases-loop-count : goal.decreases-loop-count
decreases-loop-count l = length l.text - l.count
