use Rattle.confluence.proofs.ShapeLaws.{rests_have_letters_below}
use Rattle.confluence.proofs.completion.rests_have_letters_below.Goals as goal

pub returns : goal.returns
returns c = rests_have_letters_below
