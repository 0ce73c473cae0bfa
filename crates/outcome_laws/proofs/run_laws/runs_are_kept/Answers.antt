use Rattle.outcome_laws.proofs.WholeRuns.{runs_are_kept}
use Rattle.outcome_laws.proofs.run_laws.runs_are_kept.Goals as goal

pub returns : goal.returns
returns c = runs_are_kept
