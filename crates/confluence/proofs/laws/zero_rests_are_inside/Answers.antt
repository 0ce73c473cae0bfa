use Rattle.confluence.proofs.RestLaws.{zero_rests_are_inside}
use Rattle.confluence.proofs.laws.zero_rests_are_inside.Goals as goal

pub returns : goal.returns
returns c = zero_rests_are_inside
