use Rattle.traced_completion.proofs.Prelude.{◌≡◌, ◌+◌, ◌++◌, List, length, All, vec_capacity, vec_len, into_iter_items, into_iter_len, IsOver, Waiting, IsFilled, restored}
use Rattle.traced_completion.proofs.pending.blocks.put_all.Given as goal

-- the ambiguities that were passed are put, and can be taken out again
abbrev pub invariant-loop-waiting : goal.invariant-loop-waiting
invariant-loop-waiting g l = record {
  passed : List Waiting;
  all : l.fn.items.items ≡ passed ++ into_iter_items l.waiting-iterator;
  left : into_iter_len l.waiting-iterator ≡ length (into_iter_items l.waiting-iterator);
  filled : IsFilled (g.O.WordOrder.letters l.order) (g.O.WordOrder.compare l.order) l.from passed l.fn.blocks.items l.blocks.items;
  back : restored l.places.items l.blocks.items ≡ l.fn.blocks.items;
  over : All (λ (w : Waiting). IsOver (g.O.WordOrder.letters l.order) w.word) (into_iter_items l.waiting-iterator);
  room : vec_len l.places + length (into_iter_items l.waiting-iterator) ≡ vec_capacity l.places;
}
