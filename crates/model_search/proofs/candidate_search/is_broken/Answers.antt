use Rattle.model_search.proofs.Prelude.{quiver_of, IsZeroIn, claim_polynomial, model_by}
use Rattle.model_search.proofs.Tested.{told_not}
use Rattle.model_search.proofs.candidate_search.is_broken.Goals as goal

pub returns : goal.returns
returns c = λ s numbered free.
    let problem = c.args.pass.now.problem.now in
    told_not c.is_claim_zero.result
    (IsZeroIn problem (model_by (quiver_of problem.parts.quiver) s 0 c.args.values.now) (claim_polynomial problem c.args.claim))
    (c.is_claim_zero.ensures s numbered)
