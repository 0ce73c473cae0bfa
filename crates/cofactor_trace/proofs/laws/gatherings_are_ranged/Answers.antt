use Rattle.cofactor_trace.proofs.GatheredParts.{gatherings_are_ranged}
use Rattle.cofactor_trace.proofs.laws.gatherings_are_ranged.Goals as goal

pub returns : goal.returns
returns c = gatherings_are_ranged
