use Rattle.confluence.proofs.Ideals.{ideals_stay_inside}
use Rattle.confluence.proofs.laws.ideals_stay_inside.Goals as goal

pub returns : goal.returns
returns c = ideals_stay_inside
