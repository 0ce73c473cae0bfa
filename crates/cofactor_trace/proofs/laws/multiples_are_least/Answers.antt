use Rattle.cofactor_trace.proofs.Divisors.{multiples_are_least}
use Rattle.cofactor_trace.proofs.laws.multiples_are_least.Goals as goal

pub returns : goal.returns
returns c = multiples_are_least
