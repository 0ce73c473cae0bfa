use Rattle.confluence.proofs.ReducibleLaws.{reducible_in_ideal}
use Rattle.confluence.proofs.laws.reducible_in_ideal.Goals as goal

pub returns : goal.returns
returns c = reducible_in_ideal
