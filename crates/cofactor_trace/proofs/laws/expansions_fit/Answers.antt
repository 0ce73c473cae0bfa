use Rattle.cofactor_trace.proofs.Limits.{expansions_fit}
use Rattle.cofactor_trace.proofs.laws.expansions_fit.Goals as goal

pub returns : goal.returns
returns c = expansions_fit
