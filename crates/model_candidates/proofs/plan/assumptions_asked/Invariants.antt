use Rattle.model_candidates.proofs.Prelude.{filter, take, if◌then◌else◌, All, AllByRecursion, quiver_of, Model, polynomials, IsZeroIn, IsAssumption, IsZeroAtSignature, is_asked}
use Rattle.model_candidates.proofs.plan.assumptions_asked.Given as goal

-- those that were passed
abbrev pub invariant-loop-place : goal.invariant-loop-place
invariant-loop-place l = record {
  each : All (IsAssumption l.problem (if l.known then 0 else 1)) l.found;
  all : (m : Model) → All (IsZeroAtSignature l.problem m) l.found
      → AllByRecursion (IsZeroIn l.problem m) (polynomials (filter (λ p. is_asked (quiver_of l.problem.parts.quiver) l.problem.parts.solved l.known p.terms)
      (take l.place l.problem.parts.assumptions)));
}
