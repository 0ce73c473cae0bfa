use Rattle.traced_completion.proofs.UniqueRuns.{rounds_unique}
use Rattle.traced_completion.proofs.laws.rounds_are_unique.Goals as goal

pub returns : goal.returns
returns c = rounds_unique
