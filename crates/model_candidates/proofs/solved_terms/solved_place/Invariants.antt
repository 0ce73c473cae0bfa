use Rattle.model_candidates.proofs.Prelude.{◌≡◌, ℕ, false, ◌<◌, get_or, is_solved, quiver_in}
use Rattle.model_candidates.proofs.solved_terms.solved_place.Given as goal

-- no letter that was passed is one
abbrev pub invariant-loop-place : goal.invariant-loop-place
invariant-loop-place l = (k : ℕ) → k < l.place → is_solved (quiver_in l.known.given) l.known.given.problem.now.parts.solved (get_or l.word k 0) ≡ false
