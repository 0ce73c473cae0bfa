use Rattle.command_shape.proofs.set.with_pair.Goals as goal

pub returns-clause-app : goal.returns-clause-app
returns-clause-app c = λ a is. c.with_command.ensures.app a _ is c.pair_command.ensures.app
