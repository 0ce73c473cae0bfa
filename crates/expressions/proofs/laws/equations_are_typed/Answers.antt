use Rattle.expressions.proofs.Typed.{equations_are_typed}
use Rattle.expressions.proofs.laws.equations_are_typed.Goals as goal

pub returns : goal.returns
returns c = equations_are_typed
