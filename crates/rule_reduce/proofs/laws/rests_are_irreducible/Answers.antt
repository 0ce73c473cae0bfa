use Rattle.rule_reduce.proofs.Irreducible.{rests_are_irreducible}
use Rattle.rule_reduce.proofs.laws.rests_are_irreducible.Goals as goal

pub returns : goal.returns
returns c = rests_are_irreducible
