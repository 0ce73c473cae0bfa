use Rattle.model_checker.proofs.Prelude.{take, AllByRecursion, IsZeroIn, assumptions_of}
use Rattle.model_checker.proofs.confirm.first_not_zero.Given as goal

-- the assumptions that were passed are zero
abbrev pub invariant-loop-place : goal.invariant-loop-place
invariant-loop-place l = AllByRecursion (IsZeroIn l.problem l.model) (take l.place (assumptions_of l.problem))
