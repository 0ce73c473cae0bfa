use Rattle.model_candidates.proofs.Prelude.{take, StandFor, system_in, model_in}
use Rattle.model_candidates.proofs.equations.pivots_with.Given as goal

-- the pivots stand for the equations of the assumptions that were passed
abbrev pub invariant-loop-assumption : goal.invariant-loop-assumption
invariant-loop-assumption l =
    StandFor l.pivots (system_in l.known.given.problem.now l.known.given.shape.now (model_in l.known.given) l.plan.unknowns
    (take l.assumption-index l.plan.assumptions.equations))
