use Rattle.model_candidates.proofs.Prelude.{◌≡◌, take, quiver_of, solved_count}
use Rattle.model_candidates.proofs.plan.solved_count.Given as goal

-- the solved letters that were passed
abbrev pub invariant-loop-place : goal.invariant-loop-place
invariant-loop-place l = l.count ≡ solved_count (quiver_of l.quiver) l.solved (take l.place l.word)
