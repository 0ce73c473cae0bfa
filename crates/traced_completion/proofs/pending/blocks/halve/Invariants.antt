use Rattle.traced_completion.proofs.Prelude.{◌≡◌, ◌<◌, ◌≤◌, length, All, joined}
use Rattle.traced_completion.proofs.pending.blocks.halve.Given as goal

-- the ambiguities are as they were
abbrev pub invariant-loop-number : goal.invariant-loop-number
invariant-loop-number l = record {
  within : l.number ≤ length l.blocks.items;
  same : joined l.blocks.items ≡ joined l.fn.blocks.items;
  nonempty : All (λ b. 0 < length b) l.blocks.items;
}

abbrev pub decreases-loop-number : goal.decreases-loop-number
decreases-loop-number l = l.number
