use Rattle.confluence.proofs.RestLaws.{normal_forms_are_reduced}
use Rattle.confluence.proofs.laws.normal_forms_are_reduced.Goals as goal

pub returns : goal.returns
returns c = normal_forms_are_reduced
