use Rattle.model_candidates.proofs.Prelude.{◌≡◌, take, picked}
use Rattle.model_candidates.proofs.SolvedEntries.{before}
use Rattle.model_candidates.proofs.unknowns.picked.Given as goal

-- the values at the entries before the place
abbrev pub invariant-loop-place : goal.invariant-loop-place
invariant-loop-place l = l.chosen ≡ take (before l.solved l.place) (picked l.solved l.values)
