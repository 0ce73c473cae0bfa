use Rattle.model_candidates.proofs.Prelude.{subst, IfOk-weaker, Shape, IsCandidate, IsShapeOf}
use Rattle.model_candidates.proofs.one_candidate.candidate.Goals as goal

pub returns : goal.returns
returns c =
    let problem = c.args.problem.now in
    record {
      candidate = IfOk-weaker c.candidate_by.result _ _
          (λ model. subst (λ n. (s : Shape) → IsShapeOf problem n s → IsCandidate problem n s c.args.seed c.args.k model)
          c.in_ok-plan.ensures.number) c.candidate_by.ensures.candidate;
    }
