use Rattle.statement_meaning.proofs.Meanings.{refuted_claims_fail}
use Rattle.statement_meaning.proofs.laws.refuted_claims_fail.Goals as goal

pub returns : goal.returns
returns c = refuted_claims_fail
