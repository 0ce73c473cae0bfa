use Rattle.traced_completion.proofs.StoreLemmas.{taken-ambiguities}
use Rattle.traced_completion.proofs.pending.laws.taken_ones_are_ambiguities.Goals as goal

pub returns : goal.returns
returns c = taken-ambiguities
