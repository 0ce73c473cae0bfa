use Rattle.outcome_laws.proofs.Problems.{each_problem_has_outcomes}
use Rattle.outcome_laws.proofs.existence_laws.each_problem_has_outcomes.Goals as goal

pub returns : goal.returns
returns c = each_problem_has_outcomes
