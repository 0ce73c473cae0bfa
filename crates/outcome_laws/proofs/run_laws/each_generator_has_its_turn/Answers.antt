use Rattle.outcome_laws.proofs.Turns.{each_generator_has_its_turn}
use Rattle.outcome_laws.proofs.run_laws.each_generator_has_its_turn.Goals as goal

pub returns : goal.returns
returns c = each_generator_has_its_turn
