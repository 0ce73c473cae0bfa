use Rattle.cofactor_checker.proofs.Prelude.{IsTable}
use Rattle.cofactor_checker.proofs.Adding.{AddsUpTo}
use Rattle.cofactor_checker.proofs.sum.add_row.Given as goal

abbrev pub invariant-loop-term : goal.invariant-loop-term
invariant-loop-term l = record {
  kept : IsTable l.sum;
  added : AddsUpTo l.initial.sum l.sum l.coefficient l.left l.terms l.right l.term-index;
}
