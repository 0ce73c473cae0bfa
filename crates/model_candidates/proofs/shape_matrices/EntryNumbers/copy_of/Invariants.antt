use Rattle.model_candidates.proofs.Prelude.{◌≡◌, take}
use Rattle.model_candidates.proofs.shape_matrices.EntryNumbers.copy_of.Given as goal

-- the numbers that were passed
abbrev pub invariant-loop-number : goal.invariant-loop-number
invariant-loop-number l = l.copy.items ≡ take l.number-index l.numbers
