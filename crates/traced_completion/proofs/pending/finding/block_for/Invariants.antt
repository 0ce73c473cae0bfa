use Rattle.traced_completion.proofs.Prelude.{◌≡◌, ◌+◌, ◌-◌, ◌<◌, ◌≤◌, [], length, slice_index_or, Less, Waiting, waiting_cmp, IsUpTo, last_of}
use Rattle.traced_completion.proofs.pending.finding.block_for.Given as goal

-- the last one of the block before the lower end isn't above, and that of the upper end's is
abbrev pub invariant-loop-low : goal.invariant-loop-low
invariant-loop-low g l = record {
  started : l.start ≤ l.low;
  ordered : l.low ≤ l.high;
  within : l.high < length l.blocks;
  before : (d : Waiting) → l.from < l.low → IsUpTo (g.O.WordOrder.compare l.order) (last_of (slice_index_or l.blocks (l.low - 1) []) d) l.waiting;
  above : (d : Waiting) → l.high + 1 < length l.blocks → waiting_cmp (g.O.WordOrder.compare l.order) l.waiting (last_of (slice_index_or l.blocks l.high []) d) ≡ Less;
}

abbrev pub decreases-loop-low : goal.decreases-loop-low
decreases-loop-low g l = l.high - l.low
