use Rattle.model_candidates.proofs.Prelude.{posed_quiver}
use Rattle.model_candidates.proofs.NumberedShapes.{posed_shape}
use Rattle.model_candidates.proofs.candidate_count.candidates.Goals as goal

pub count_for-requires-clause-quiver : goal.count_for-requires-clause-quiver
count_for-requires-clause-quiver c = posed_quiver c.args.problem.now.parts c.args.problem.now.posed

pub count_for-requires-clause-shape : goal.count_for-requires-clause-shape
count_for-requires-clause-shape c = posed_shape c.args.problem.now _ c.at.ensures
