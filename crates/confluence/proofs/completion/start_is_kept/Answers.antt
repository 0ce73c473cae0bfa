use Rattle.confluence.proofs.Steps.{start_is_kept}
use Rattle.confluence.proofs.completion.start_is_kept.Goals as goal

pub returns : goal.returns
returns c = start_is_kept
