use Rattle.confluence.proofs.Steps.{resolved_at_once_is_kept}
use Rattle.confluence.proofs.completion.resolved_at_once_is_kept.Goals as goal

pub returns : goal.returns
returns c = resolved_at_once_is_kept
