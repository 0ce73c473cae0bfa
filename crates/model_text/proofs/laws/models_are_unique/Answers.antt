use Rattle.model_text.proofs.EachText as lemma
use Rattle.model_text.proofs.laws.models_are_unique.Goals as goal

pub returns : goal.returns
returns c = lemma.models_are_unique
