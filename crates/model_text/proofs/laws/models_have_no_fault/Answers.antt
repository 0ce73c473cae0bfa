use Rattle.model_text.proofs.EachText as lemma
use Rattle.model_text.proofs.laws.models_have_no_fault.Goals as goal

pub returns : goal.returns
returns c = lemma.models_have_no_fault
