use Rattle.word_orders.proofs.Prelude.{◌≡◌, ◌≤◌, take, count_by, is_in}
use Rattle.word_orders.proofs.block.BlockLex.count.Given as goal

abbrev pub invariant-loop-place : goal.invariant-loop-place
invariant-loop-place l = record {
  count : l.count ≡ count_by (is_in l.self) (take l.place l.word);
  small : l.count ≤ l.place;
}
