use Rattle.closed_checker.proofs.Lists.{lists_are_unique}
use Rattle.closed_checker.proofs.laws.lists_are_unique.Goals as goal

pub returns : goal.returns
returns c = lists_are_unique
