use Rattle.traced_completion.proofs.RunStates.{states_bounded}
use Rattle.traced_completion.proofs.laws.states_are_bounded.Goals as goal

pub returns : goal.returns
returns c = states_bounded
