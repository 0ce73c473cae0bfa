use Rattle.confluence.proofs.TypedLaws.{s_polynomials_stay_typed}
use Rattle.confluence.proofs.completion.s_polynomials_stay_typed.Goals as goal

pub returns : goal.returns
returns c = s_polynomials_stay_typed
