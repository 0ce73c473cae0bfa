use Rattle.traced_completion.proofs.StoreLemmas.{pending-over}
use Rattle.traced_completion.proofs.pending.laws.pending_words_are_over.Goals as goal

pub returns : goal.returns
returns c = pending-over
