use Rattle.outcome_laws.proofs.Problems.{each_claim_has_an_outcome}
use Rattle.outcome_laws.proofs.existence_laws.each_claim_has_an_outcome.Goals as goal

pub returns : goal.returns
returns c = each_claim_has_an_outcome
