use Rattle.model_checker.proofs.Judged as lemma
use Rattle.model_checker.proofs.laws.model_refusal_is_unique.Goals as goal

pub returns : goal.returns
returns c = lemma.model_refusal_is_unique
