use Rattle.model_checker.proofs.Prelude.{rules, posed_quiver}
use Rattle.model_checker.proofs.confirm.confirm_model.Goals as goal

pub check_maps-requires-clause-quiver : goal.check_maps-requires-clause-quiver
check_maps-requires-clause-quiver c = posed_quiver c.args.problem.now.parts c.args.problem.now.posed

pub len-requires : goal.len-requires
len-requires c κs = search rules

pub returns-then-model-eq0-clause-confirmed : goal.returns-then-model-eq0-clause-confirmed
returns-then-model-eq0-clause-confirmed c = search rules

pub returns-then-model-eq0-clause-refused : goal.returns-then-model-eq0-clause-refused
returns-then-model-eq0-clause-refused c = search rules

pub returns-then-model-eq0-clause-complete : goal.returns-then-model-eq0-clause-complete
returns-then-model-eq0-clause-complete c = search rules

pub check_maps-requires-clause-model : goal.check_maps-requires-clause-model
check_maps-requires-clause-model c = search rules

pub returns-in_err-check_maps-clause-confirmed : goal.returns-in_err-check_maps-clause-confirmed
returns-in_err-check_maps-clause-confirmed c = search rules

pub returns-in_err-check_maps-clause-refused : goal.returns-in_err-check_maps-clause-refused
returns-in_err-check_maps-clause-refused c = search rules

pub returns-in_err-check_maps-clause-complete : goal.returns-in_err-check_maps-clause-complete
returns-in_err-check_maps-clause-complete c = search rules
