use Rattle.cofactor_trace.proofs.Passes.{expansions_balance}
use Rattle.cofactor_trace.proofs.laws.expansions_balance.Goals as goal

pub returns : goal.returns
returns c = expansions_balance
