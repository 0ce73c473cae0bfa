use Rattle.model_candidates.proofs.Prelude.{◌≡◌}
use Rattle.model_candidates.proofs.SolvedEntries.{before}
use Rattle.model_candidates.proofs.unknowns.unknown_count.Given as goal

-- how many were passed
abbrev pub invariant-loop-flag : goal.invariant-loop-flag
invariant-loop-flag l = l.count ≡ before l.solved l.flag-index
