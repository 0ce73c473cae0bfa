use Rattle.outcome_laws.proofs.Meanings.{derived_claims_add_up}
use Rattle.outcome_laws.proofs.meaning_laws.derived_claims_add_up.Goals as goal

pub returns : goal.returns
returns c = derived_claims_add_up
