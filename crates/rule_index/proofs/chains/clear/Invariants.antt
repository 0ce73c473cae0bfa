use Rattle.rule_index.proofs.Prelude.{◌≡◌, ℕ, ◌<◌, length, get_or}
use Rattle.rule_index.proofs.chains.clear.Given as goal

-- no node so far
abbrev pub invariant-loop-bucket : goal.invariant-loop-bucket
invariant-loop-bucket l = record {
  len : length l.heads ≡ length l.initial.heads;
  none : (b : ℕ) → b < l.bucket → get_or l.heads b 0 ≡ 0;
}
