use Rattle.traced_completion.proofs.Prelude.{arith}
use Rattle.traced_completion.proofs.GeneratorWorks.{unit_turn, other_turn}
use Rattle.traced_completion.proofs.generators.number_in_turn.Goals as goal

pub returns-then-turn-units-clause-number : goal.returns-then-turn-units-clause-number
returns-then-turn-units-clause-number c = unit_turn c.args.units c.args.count c.args.turn _ c.requires.units c.if-turn-units.true (omega arith)

pub returns-else-turn-units-clause-number : goal.returns-else-turn-units-clause-number
returns-else-turn-units-clause-number c = other_turn c.args.units c.args.count c.args.turn _ c.requires.units c.if-turn-units.false c.requires.turn (omega arith)
