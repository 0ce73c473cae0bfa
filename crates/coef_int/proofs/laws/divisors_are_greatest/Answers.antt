use Rattle.coef_int.proofs.Divisors.{divisors_are_greatest}
use Rattle.coef_int.proofs.laws.divisors_are_greatest.Goals as goal

pub returns : goal.returns
returns c = divisors_are_greatest
