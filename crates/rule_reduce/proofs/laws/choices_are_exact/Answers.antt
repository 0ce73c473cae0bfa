use Rattle.rule_reduce.proofs.Chosen.{choices_are_exact}
use Rattle.rule_reduce.proofs.laws.choices_are_exact.Goals as goal

pub returns : goal.returns
returns c = choices_are_exact
