use Rattle.matrix_models.proofs.GreedyExistence.{greedy_is_unique}
use Rattle.matrix_models.proofs.laws.greedy_solution_is_unique.Goals as goal

pub returns : goal.returns
returns c = greedy_is_unique
