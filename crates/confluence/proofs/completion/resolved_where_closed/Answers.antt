use Rattle.confluence.proofs.OutsideIdeals.{resolved_where_closed}
use Rattle.confluence.proofs.completion.resolved_where_closed.Goals as goal

pub returns : goal.returns
returns c = resolved_where_closed
