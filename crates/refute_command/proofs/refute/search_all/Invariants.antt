use Rattle.refute_command.proofs.Prelude.{◌≡◌, length, into_iter_items, into_iter_len, claim_numbers}
use Rattle.refute_command.proofs.Said.{SaidSoFar}
use Rattle.refute_command.proofs.refute.search_all.Given as goal

-- the first claims have their verdicts
abbrev pub invariant-loop-one : goal.invariant-loop-one
invariant-loop-one g l = record {
  left : into_iter_len l.one-iterator ≡ length (into_iter_items l.one-iterator);
  said : SaidSoFar l.problem l.seed (claim_numbers l.problem) l.verdicts (into_iter_items l.one-iterator);
}
