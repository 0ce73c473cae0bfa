use Rattle.confluence.proofs.OutsideIdeals.{resolved_below_pending}
use Rattle.confluence.proofs.completion.resolved_below_pending.Goals as goal

pub returns : goal.returns
returns c = resolved_below_pending
