use Rattle.word_core.proofs.Prelude.{◌≡◌, ◌≤◌, ◌+◌, ◌-◌, length, filter, range_with_len, overlaps_at}
use Rattle.word_core.proofs.overlap.overlaps.Given as goal

abbrev pub invariant-loop-place : goal.invariant-loop-place
invariant-loop-place l = record {
  within : l.place ≤ length l.left + 1;
  same : l.places ≡ filter (overlaps_at l.left l.right) (range_with_len 1 (l.place - 1));
}
