use Rattle.command_shape.proofs.Prelude.{◌∙◌, ap, new_app}
use Rattle.command_shape.proofs.set.pair_command.Goals as goal

pub returns-clause-app : goal.returns-clause-app
returns-clause-app c =
    let bare = c.new.ensures.app ∙ ap new_app c.name.ensures in
    let statement = c.with_arg-command.ensures.app _ _ bare c.required_word.ensures.rule in
    c.with_arg.ensures.app _ _ statement c.required_word-2.ensures.rule
