use Rattle.model_checker.proofs.Judged.{each_model_is_judged}
use Rattle.model_checker.proofs.laws.each_model_is_judged.Goals as goal

pub returns : goal.returns
returns c = each_model_is_judged
