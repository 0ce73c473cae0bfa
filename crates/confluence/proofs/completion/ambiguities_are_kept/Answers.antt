use Rattle.confluence.proofs.Steps.{ambiguities_are_kept}
use Rattle.confluence.proofs.completion.ambiguities_are_kept.Goals as goal

pub returns : goal.returns
returns c = ambiguities_are_kept
