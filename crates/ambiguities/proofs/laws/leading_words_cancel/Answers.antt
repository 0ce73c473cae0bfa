use Rattle.ambiguities.proofs.Bounds.{leading_words_cancel}
use Rattle.ambiguities.proofs.laws.leading_words_cancel.Goals as goal

pub returns : goal.returns
returns c = leading_words_cancel
