use Rattle.cofactor_trace.proofs.LemmaBalance.{gatherings_add_up}
use Rattle.cofactor_trace.proofs.laws.gatherings_add_up.Goals as goal

pub returns : goal.returns
returns c = gatherings_add_up
