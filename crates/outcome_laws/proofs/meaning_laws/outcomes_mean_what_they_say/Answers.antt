use Rattle.outcome_laws.proofs.Meanings.{outcomes_mean_what_they_say}
use Rattle.outcome_laws.proofs.meaning_laws.outcomes_mean_what_they_say.Goals as goal

pub returns : goal.returns
returns c = outcomes_mean_what_they_say
