use Rattle.prove_command.proofs.Prelude.{◌≡◌, length, into_iter_items, into_iter_len}
use Rattle.prove_command.proofs.Said.{SaidSoFar}
use Rattle.prove_command.proofs.prove.verdicts_of.Given as goal

-- the first claims have their verdicts
abbrev pub invariant-loop-outcome : goal.invariant-loop-outcome
invariant-loop-outcome g l = record {
  left : into_iter_len l.outcome-iterator ≡ length (into_iter_items l.outcome-iterator);
  found_left : into_iter_len l.found ≡ length (into_iter_items l.found);
  said : SaidSoFar l.problem l.fn.asked l.fn.outcomes l.verdicts (into_iter_items l.outcome-iterator) (into_iter_items l.found);
}
