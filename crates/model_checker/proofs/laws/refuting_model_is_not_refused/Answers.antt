use Rattle.model_checker.proofs.Judged as lemma
use Rattle.model_checker.proofs.laws.refuting_model_is_not_refused.Goals as goal

pub returns : goal.returns
returns c = lemma.refuting_model_is_not_refused
