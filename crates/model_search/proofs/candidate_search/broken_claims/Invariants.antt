use Rattle.model_search.proofs.Prelude.{quiver_of, Shape, IsShapeOf, model_by}
use Rattle.model_search.proofs.Tested.{TellFirst}
use Rattle.model_search.proofs.candidate_search.broken_claims.Given as goal

-- the flags of the first claims say whether they aren't zero in the model by the values
abbrev pub invariant-loop-place : goal.invariant-loop-place
invariant-loop-place l = (s : Shape) → IsShapeOf l.pass.problem.now l.pass.plan.now.number s
    → TellFirst l.pass.problem.now (model_by (quiver_of l.pass.problem.now.parts.quiver) s 0 l.values) l.pass.claims.now l.found l.place l.broken
