use Rattle.model_checker.proofs.Prelude.{posed_quiver}
use Rattle.model_checker.proofs.confirm.check_model.Goals as goal

pub representation_of-requires-clause-quiver : goal.representation_of-requires-clause-quiver
representation_of-requires-clause-quiver c = posed_quiver c.args.problem.now.parts c.args.problem.now.posed
