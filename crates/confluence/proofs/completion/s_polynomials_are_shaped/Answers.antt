use Rattle.confluence.proofs.ShapeLaws.{s_polynomials_are_shaped}
use Rattle.confluence.proofs.completion.s_polynomials_are_shaped.Goals as goal

pub returns : goal.returns
returns c = s_polynomials_are_shaped
