use Rattle.model_candidates.proofs.Prelude.{posed_quiver}
use Rattle.model_candidates.proofs.tested_values.is_passed.Goals as goal

pub has_few-requires-clause-quiver : goal.has_few-requires-clause-quiver
has_few-requires-clause-quiver c = posed_quiver c.args.problem.now.parts c.args.problem.now.posed
