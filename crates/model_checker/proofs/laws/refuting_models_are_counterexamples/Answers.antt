use Rattle.model_checker.proofs.Counterexamples.{refuting_models_are_counterexamples}
use Rattle.model_checker.proofs.laws.refuting_models_are_counterexamples.Goals as goal

pub returns : goal.returns
returns c = refuting_models_are_counterexamples
