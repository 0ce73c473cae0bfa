use Rattle.command_shape.proofs.set.bench_command.Goals as goal

pub returns-clause-app : goal.returns-clause-app
returns-clause-app c =
    let size = c.with_arg-command.ensures.app _ _ c.new.ensures.app c.required_number.ensures.rule in
    c.with_arg.ensures.app _ _ size c.workers_option.ensures.rule
