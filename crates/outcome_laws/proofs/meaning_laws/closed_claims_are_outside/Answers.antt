use Rattle.outcome_laws.proofs.Meanings.{closed_claims_are_outside}
use Rattle.outcome_laws.proofs.meaning_laws.closed_claims_are_outside.Goals as goal

pub returns : goal.returns
returns c = closed_claims_are_outside
