use Rattle.confluence.proofs.TypedLaws.{normal_forms_stay_typed}
use Rattle.confluence.proofs.completion.normal_forms_stay_typed.Goals as goal

pub returns : goal.returns
returns c = normal_forms_stay_typed
