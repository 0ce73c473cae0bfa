use Rattle.confluence.proofs.Steps.{generators_are_kept}
use Rattle.confluence.proofs.completion.generators_are_kept.Goals as goal

pub returns : goal.returns
returns c = generators_are_kept
