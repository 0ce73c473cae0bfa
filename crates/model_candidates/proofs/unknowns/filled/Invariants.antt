use Rattle.model_candidates.proofs.Prelude.{◌≡◌, take, filled}
use Rattle.model_candidates.proofs.SolvedEntries.{before}
use Rattle.model_candidates.proofs.unknowns.filled.Given as goal

-- the values before the place, and how many of the given ones are among them
abbrev pub invariant-loop-place : goal.invariant-loop-place
invariant-loop-place l = (l.all ≡ take l.place (filled l.solved l.drawn l.values)) × (l.next ≡ before l.solved l.place)
