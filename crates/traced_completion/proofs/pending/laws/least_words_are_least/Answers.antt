use Rattle.traced_completion.proofs.StoreLemmas.{least-words}
use Rattle.traced_completion.proofs.pending.laws.least_words_are_least.Goals as goal

pub returns : goal.returns
returns c = least-words
