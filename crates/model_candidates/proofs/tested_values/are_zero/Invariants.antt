use Rattle.model_candidates.proofs.Prelude.{take, AllByRecursion, IsZeroIn, assumptions_of, model_in}
use Rattle.model_candidates.proofs.tested_values.are_zero.Given as goal

-- the assumptions that were passed are zero
abbrev pub invariant-loop-place : goal.invariant-loop-place
invariant-loop-place l = AllByRecursion (IsZeroIn l.problem (model_in l.given)) (take l.place (assumptions_of l.problem))
