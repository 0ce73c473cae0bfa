use Rattle.rule_reduce.proofs.Multipliers.{multipliers_are_positive}
use Rattle.rule_reduce.proofs.laws.multipliers_are_positive.Goals as goal

pub returns : goal.returns
returns c = multipliers_are_positive
