use Rattle.matrix_models.proofs.Blocks.{solvable_by_parts}
use Rattle.matrix_models.proofs.laws.systems_are_solvable_by_parts.Goals as goal

pub returns : goal.returns
returns c = solvable_by_parts
