use Rattle.outcome_laws.proofs.Outcomes.{pairs_are_enough}
use Rattle.outcome_laws.proofs.pair_laws.pairs_are_enough.Goals as goal

pub returns : goal.returns
returns c = pairs_are_enough
