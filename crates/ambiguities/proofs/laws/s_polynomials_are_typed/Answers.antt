use Rattle.ambiguities.proofs.Signatures.{s_polynomials_are_typed}
use Rattle.ambiguities.proofs.laws.s_polynomials_are_typed.Goals as goal

pub returns : goal.returns
returns c = s_polynomials_are_typed
