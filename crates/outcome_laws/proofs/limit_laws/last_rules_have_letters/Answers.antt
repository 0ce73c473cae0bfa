use Rattle.outcome_laws.proofs.OutcomeLetters.{last_rules_have_letters}
use Rattle.outcome_laws.proofs.limit_laws.last_rules_have_letters.Goals as goal

pub returns : goal.returns
returns c = last_rules_have_letters
