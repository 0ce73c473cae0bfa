use Rattle.outcome_laws.proofs.FewTreated.{open_runs_treat_few}
use Rattle.outcome_laws.proofs.pair_laws.open_runs_treat_few.Goals as goal

pub returns : goal.returns
returns c = open_runs_treat_few
