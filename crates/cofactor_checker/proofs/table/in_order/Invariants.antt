use Rattle.cofactor_checker.proofs.Prelude.{IsOrdered, word_cmp, IsRunning}
use Rattle.cofactor_checker.proofs.InOrder.{Moves}
use Rattle.cofactor_checker.proofs.table.in_order.Given as goal

abbrev pub invariant-loop-key : goal.invariant-loop-key
invariant-loop-key l = record {
  running : IsRunning l.sum;
  ordered : IsOrdered word_cmp l.sum;
  moves : Moves l.fn.table l.key-iterator l.sum;
}
