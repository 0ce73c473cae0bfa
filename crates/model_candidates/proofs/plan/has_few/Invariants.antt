use Rattle.model_candidates.proofs.Prelude.{◌≡◌, true, nat_le, take, list_all, quiver_of, solved_count}
use Rattle.model_candidates.proofs.plan.has_few.Given as goal

-- each word that was passed has so many solved letters at most
abbrev pub invariant-loop-place : goal.invariant-loop-place
invariant-loop-place l = list_all (λ t. nat_le (solved_count (quiver_of l.quiver) l.solved t.1) l.most) (take l.place l.poly.terms) ≡ true
