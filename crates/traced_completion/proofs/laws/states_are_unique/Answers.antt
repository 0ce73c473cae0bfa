use Rattle.traced_completion.proofs.UniqueRuns.{states_unique}
use Rattle.traced_completion.proofs.laws.states_are_unique.Goals as goal

pub returns : goal.returns
returns c = states_unique
