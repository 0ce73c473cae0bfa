use Rattle.traced_completion.proofs.Prelude.{◌≡◌, ◌-◌, ◌<◌, ◌≤◌, length, slice_index_or, Less, Waiting, waiting_cmp, IsUpTo}
use Rattle.traced_completion.proofs.pending.finding.first_above.Given as goal

-- the one before the lower end isn't above, and the one at the upper end is
abbrev pub invariant-loop-low : goal.invariant-loop-low
invariant-loop-low g l = record {
  ordered : l.low ≤ l.high;
  within : l.high ≤ length l.items;
  before : (d : Waiting) → 0 < l.low → IsUpTo (g.O.WordOrder.compare l.order) (slice_index_or l.items (l.low - 1) d) l.waiting;
  above : (d : Waiting) → l.high < length l.items → waiting_cmp (g.O.WordOrder.compare l.order) l.waiting (slice_index_or l.items l.high d) ≡ Less;
}

abbrev pub decreases-loop-low : goal.decreases-loop-low
decreases-loop-low g l = l.high - l.low
