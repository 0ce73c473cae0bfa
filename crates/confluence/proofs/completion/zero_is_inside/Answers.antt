use Rattle.confluence.proofs.Inside.{zero_is_inside}
use Rattle.confluence.proofs.completion.zero_is_inside.Goals as goal

pub returns : goal.returns
returns c = zero_is_inside
