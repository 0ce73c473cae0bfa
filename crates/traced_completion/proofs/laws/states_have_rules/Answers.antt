use Rattle.traced_completion.proofs.RunStates.{states_rules}
use Rattle.traced_completion.proofs.laws.states_have_rules.Goals as goal

pub returns : goal.returns
returns c = states_rules
