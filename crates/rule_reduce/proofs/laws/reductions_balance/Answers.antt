use Rattle.rule_reduce.proofs.Balance.{reductions_balance}
use Rattle.rule_reduce.proofs.laws.reductions_balance.Goals as goal

pub returns : goal.returns
returns c = reductions_balance
