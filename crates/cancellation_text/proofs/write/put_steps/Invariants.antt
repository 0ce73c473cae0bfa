use Rattle.cancellation_text.proofs.Prelude.{◌≡◌, ◌++◌, ◌+◌, take, items_text}
use Rattle.cancellation_text.proofs.write.put_steps.Given as goal

abbrev pub invariant-loop-item : goal.invariant-loop-item
invariant-loop-item l = (l.out.items ≡ l.fn.out.items ++ items_text l.quiver 1 (take l.item-index l.item-items)) × (l.number ≡ l.item-index + 1)
