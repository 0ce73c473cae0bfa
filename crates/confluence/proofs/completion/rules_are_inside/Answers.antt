use Rattle.confluence.proofs.Inside.{rules_are_inside}
use Rattle.confluence.proofs.completion.rules_are_inside.Goals as goal

pub returns : goal.returns
returns c = rules_are_inside
