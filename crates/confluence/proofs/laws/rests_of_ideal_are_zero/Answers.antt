use Rattle.confluence.proofs.RestLaws.{rests_of_ideal_are_zero}
use Rattle.confluence.proofs.laws.rests_of_ideal_are_zero.Goals as goal

pub returns : goal.returns
returns c = rests_of_ideal_are_zero
