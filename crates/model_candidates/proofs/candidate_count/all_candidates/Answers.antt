use Rattle.model_candidates.proofs.Prelude.{posed_quiver}
use Rattle.model_candidates.proofs.candidate_count.all_candidates.Goals as goal

pub count_for-requires-clause-quiver : goal.count_for-requires-clause-quiver
count_for-requires-clause-quiver c = posed_quiver c.args.problem.now.parts c.args.problem.now.posed
