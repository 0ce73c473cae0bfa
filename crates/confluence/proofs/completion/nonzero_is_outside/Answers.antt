use Rattle.confluence.proofs.OutsideIdeals.{nonzero_is_outside}
use Rattle.confluence.proofs.completion.nonzero_is_outside.Goals as goal

pub returns : goal.returns
returns c = nonzero_is_outside
