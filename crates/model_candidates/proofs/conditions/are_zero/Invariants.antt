use Rattle.model_candidates.proofs.Prelude.{ℕ, ◌<◌, get_or, IsZeroAtSignature, model_in}
use Rattle.model_candidates.proofs.KnownValues.{no_assumption}
use Rattle.model_candidates.proofs.conditions.are_zero.Given as goal

-- those that were passed are zero
abbrev pub invariant-loop-place : goal.invariant-loop-place
invariant-loop-place l = (k : ℕ) → k < l.place → IsZeroAtSignature l.known.given.problem.now (model_in l.known.given) (get_or l.conditions k no_assumption)
