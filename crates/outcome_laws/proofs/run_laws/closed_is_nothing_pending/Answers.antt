use Rattle.outcome_laws.proofs.WholeRuns.{closed_is_nothing_pending}
use Rattle.outcome_laws.proofs.run_laws.closed_is_nothing_pending.Goals as goal

pub returns : goal.returns
returns c = closed_is_nothing_pending
