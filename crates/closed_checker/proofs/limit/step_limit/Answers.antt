use Rattle.closed_checker.proofs.Prelude.{refl, step_limit}
use Rattle.closed_checker.proofs.limit.step_limit.Goals as goal

pub returns : goal.returns
unfolding step_limit
returns c = refl
