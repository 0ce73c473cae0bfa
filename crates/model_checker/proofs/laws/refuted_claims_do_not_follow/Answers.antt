use Rattle.model_checker.proofs.Counterexamples.{refuted_claims_do_not_follow}
use Rattle.model_checker.proofs.laws.refuted_claims_do_not_follow.Goals as goal

pub returns : goal.returns
returns c = refuted_claims_do_not_follow
