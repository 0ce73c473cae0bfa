use Rattle.command_shape.proofs.set.prove_command.Goals as goal

pub returns-clause-app : goal.returns-clause-app
returns-clause-app c =
    let file = c.with_arg-command.ensures.app _ _ c.new.ensures.app c.required_word.ensures.rule in
    let pairs = c.with_arg-command-2.ensures.app _ _ file c.number_option-pairs.ensures.rule in
    let steps = c.with_arg-command-3.ensures.app _ _ pairs c.number_option-steps.ensures.rule in
    let workers = c.with_arg-command-4.ensures.app _ _ steps c.workers_option.ensures.rule in
    let seed = c.with_arg-command-5.ensures.app _ _ workers c.seed_option.ensures.rule in
    let format = c.with_arg-command-6.ensures.app _ _ seed c.number_option-format.ensures.rule in
    c.with_arg.ensures.app _ _ format c.flag_option.ensures.rule
