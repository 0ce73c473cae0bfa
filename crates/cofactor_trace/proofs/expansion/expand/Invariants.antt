use Rattle.cofactor_trace.proofs.Prelude.{length, All, values_of, IsRanged}
use Rattle.cofactor_trace.proofs.NeededLaws.{IsUnderWay}
use Rattle.cofactor_trace.proofs.expansion.expand.Given as goal

abbrev pub invariant-loop-number : goal.invariant-loop-number
invariant-loop-number l = record {
  under_way : IsUnderWay l.fn.made l.fn.target l.numbers.items l.expansions.entries;
  ranged : All IsRanged (values_of l.expansions.entries);
}

abbrev pub decreases-loop-number : goal.decreases-loop-number
decreases-loop-number l = length l.numbers.items
