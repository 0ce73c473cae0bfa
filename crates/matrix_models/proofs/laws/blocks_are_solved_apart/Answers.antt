use Rattle.matrix_models.proofs.Blocks.{blocks_solved_apart}
use Rattle.matrix_models.proofs.laws.blocks_are_solved_apart.Goals as goal

pub returns : goal.returns
returns c = blocks_solved_apart
