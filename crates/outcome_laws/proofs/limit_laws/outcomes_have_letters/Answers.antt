use Rattle.outcome_laws.proofs.OutcomeLetters.{outcomes_have_letters}
use Rattle.outcome_laws.proofs.limit_laws.outcomes_have_letters.Goals as goal

pub returns : goal.returns
returns c = outcomes_have_letters
