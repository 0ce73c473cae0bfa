use Rattle.claim_decider.proofs.UniqueOutcomes.{outcomes_unique}
use Rattle.claim_decider.proofs.laws.outcomes_are_unique.Goals as goal

pub returns : goal.returns
returns c = outcomes_unique
