use Rattle.matrix_models.proofs.GreedyExistence.{has_greedy_solution}
use Rattle.matrix_models.proofs.laws.solvable_systems_have_a_greedy_solution.Goals as goal

pub returns : goal.returns
returns c = has_greedy_solution
