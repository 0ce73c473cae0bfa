use Rattle.matrix_models.proofs.Blocks.{greedy_joined}
use Rattle.matrix_models.proofs.laws.greedy_solutions_are_joined.Goals as goal

pub returns : goal.returns
returns c = greedy_joined
