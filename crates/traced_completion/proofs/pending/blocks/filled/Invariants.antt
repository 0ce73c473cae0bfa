use Rattle.traced_completion.proofs.Prelude.{◌≡◌, ◌+◌, ◌-◌, ◌≤◌, length, take, joined}
use Rattle.traced_completion.proofs.pending.blocks.filled.Given as goal

-- the blocks that were passed have as many as aren't left
abbrev pub invariant-loop-number : goal.invariant-loop-number
invariant-loop-number l = record {
  within : l.number ≤ length l.blocks;
  passed : length (joined (take l.number l.blocks)) + l.rest ≡ l.count;
}

abbrev pub decreases-loop-number : goal.decreases-loop-number
decreases-loop-number l = length l.blocks - l.number
