use Rattle.model_candidates.proofs.Prelude.{◌≡◌, take, numbers_in, model_in, quiver_in, solved_terms}
use Rattle.model_candidates.proofs.solved_terms.solved_terms.Given as goal

-- the terms that were passed and have a solved letter
abbrev pub invariant-loop-place : goal.invariant-loop-place
invariant-loop-place l =
    l.terms ≡ solved_terms (quiver_in l.known.given) l.known.given.shape.now l.known.given.problem.now.parts.solved (numbers_in l.known)
    (model_in l.known.given) l.fn.ends.source.0 (take l.place l.poly.terms)
