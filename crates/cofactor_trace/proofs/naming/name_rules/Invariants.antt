use Rattle.cofactor_trace.proofs.Prelude.{◌<◌, ◌^◌, length, All, records}
use Rattle.cofactor_trace.proofs.NamingLaws.{IsUnderWay}
use Rattle.cofactor_trace.proofs.naming.name_rules.Given as goal

abbrev pub invariant-loop-number : goal.invariant-loop-number
invariant-loop-number l = record {
  under_way : IsUnderWay l.fn.made l.fn.target l.numbers.items l.replacements.items (records l.lemmas.items);
  in_range : All (λ n. n < 2 ^ 32) l.numbers.items;
}

abbrev pub decreases-loop-number : goal.decreases-loop-number
decreases-loop-number l = length l.numbers.items
