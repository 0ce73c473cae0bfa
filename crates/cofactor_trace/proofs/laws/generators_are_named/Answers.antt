use Rattle.cofactor_trace.proofs.NamedGenerators.{generators_are_named}
use Rattle.cofactor_trace.proofs.laws.generators_are_named.Goals as goal

pub returns : goal.returns
returns c = generators_are_named
