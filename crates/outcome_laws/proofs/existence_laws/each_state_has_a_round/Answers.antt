use Rattle.outcome_laws.proofs.Problems.{each_state_has_a_round}
use Rattle.outcome_laws.proofs.existence_laws.each_state_has_a_round.Goals as goal

pub returns : goal.returns
returns c = each_state_has_a_round
