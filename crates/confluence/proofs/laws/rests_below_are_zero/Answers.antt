use Rattle.confluence.proofs.RestLaws.{rests_below_are_zero}
use Rattle.confluence.proofs.laws.rests_below_are_zero.Goals as goal

pub returns : goal.returns
returns c = rests_below_are_zero
