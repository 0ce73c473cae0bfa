use Rattle.outcome_laws.proofs.WholeRuns.{first_is_least_pending}
use Rattle.outcome_laws.proofs.run_laws.first_is_least_pending.Goals as goal

pub returns : goal.returns
returns c = first_is_least_pending
