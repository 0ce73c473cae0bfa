use Rattle.confluence.proofs.ShapeLaws.{normal_forms_are_shaped}
use Rattle.confluence.proofs.completion.normal_forms_are_shaped.Goals as goal

pub returns : goal.returns
returns c = normal_forms_are_shaped
