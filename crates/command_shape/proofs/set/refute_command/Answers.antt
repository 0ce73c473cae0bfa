use Rattle.command_shape.proofs.set.refute_command.Goals as goal

pub returns-clause-app : goal.returns-clause-app
returns-clause-app c =
    let file = c.with_arg-command.ensures.app _ _ c.new.ensures.app c.required_word.ensures.rule in
    let workers = c.with_arg-command-2.ensures.app _ _ file c.workers_option.ensures.rule in
    c.with_arg.ensures.app _ _ workers c.seed_option.ensures.rule
