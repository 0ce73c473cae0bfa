use Rattle.ambiguities.proofs.Balance.{s_polynomials_balance}
use Rattle.ambiguities.proofs.laws.s_polynomials_balance.Goals as goal

pub returns : goal.returns
returns c = s_polynomials_balance
