use Rattle.outcome_laws.proofs.Meanings.{least_words_bound_derivations}
use Rattle.outcome_laws.proofs.meaning_laws.least_words_bound_derivations.Goals as goal

pub returns : goal.returns
returns c = least_words_bound_derivations
