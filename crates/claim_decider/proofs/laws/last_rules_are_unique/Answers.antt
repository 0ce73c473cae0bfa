use Rattle.claim_decider.proofs.UniqueRules.{last_rules_unique}
use Rattle.claim_decider.proofs.laws.last_rules_are_unique.Goals as goal

pub returns : goal.returns
returns c = last_rules_unique
