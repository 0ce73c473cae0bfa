use Rattle.confluence.proofs.ReducibleLaws.{reducible_below}
use Rattle.confluence.proofs.laws.reducible_below.Goals as goal

pub returns : goal.returns
returns c = reducible_below
