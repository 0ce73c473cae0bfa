use Rattle.model_candidates.proofs.AskedAssumptions.{both_asked}
use Rattle.model_candidates.proofs.plan.linear_assumptions.Goals as goal

pub returns : goal.returns
returns c = both_asked c.args.problem.now c.in_ok-conditions.ensures c.in_ok-equations.ensures
