use Rattle.traced_completion.proofs.StoreLemmas.{stores-unique}
use Rattle.traced_completion.proofs.pending.laws.stores_are_unique.Goals as goal

pub returns : goal.returns
returns c = stores-unique
