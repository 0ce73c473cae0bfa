use Rattle.cofactor_trace.proofs.GatheredParts.{gatherings_fit}
use Rattle.cofactor_trace.proofs.laws.gatherings_fit.Goals as goal

pub returns : goal.returns
returns c = gatherings_fit
