use Rattle.confluence.proofs.OutsideIdeals.{nonzero_is_not_below}
use Rattle.confluence.proofs.completion.nonzero_is_not_below.Goals as goal

pub returns : goal.returns
returns c = nonzero_is_not_below
