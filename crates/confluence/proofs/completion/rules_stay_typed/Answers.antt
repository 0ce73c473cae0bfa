use Rattle.confluence.proofs.TypedLaws.{rules_stay_typed}
use Rattle.confluence.proofs.completion.rules_stay_typed.Goals as goal

pub returns : goal.returns
returns c = rules_stay_typed
