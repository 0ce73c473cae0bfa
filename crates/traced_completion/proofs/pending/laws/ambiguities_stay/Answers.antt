use Rattle.traced_completion.proofs.Staying.{ambiguities-stay}
use Rattle.traced_completion.proofs.pending.laws.ambiguities_stay.Goals as goal

pub returns : goal.returns
returns c = ambiguities-stay
