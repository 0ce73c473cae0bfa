use Rattle.model_text.proofs.ModelsBack as lemma
use Rattle.model_text.proofs.laws.models_are_read_back.Goals as goal

pub returns : goal.returns
returns c = lemma.models_are_read_back
