use Rattle.command_shape.proofs.Prelude.{Bool, true, ap, ◌∙◌, App, app_of_fields, Command, Command-F}
use Rattle.command_shape.proofs.set.bare_command.Goals as goal

pub returns-clause-app : goal.returns-clause-app
returns-clause-app c =
    ap app_of_fields c.subcommand_required.ensures
    ∙ ap (λ (f : Command-F Command). app_of_fields (record f { subcommand_required = true })) c.disable_help_subcommand.ensures
    ∙ ap (λ (f : Command-F Command). app_of_fields (record f { disable_help_subcommand = true; subcommand_required = true }))
    c.disable_help_flag.ensures
    ∙ ap (λ (f : Command-F Command). app_of_fields (record f { disable_help_flag = true; disable_help_subcommand = true; subcommand_required = true }))
    c.no_binary_name.ensures
    ∙ ap (λ (a : App). record a {
      top = record a.top {
        no_binary_name = true;
        disable_help_flag = true;
        disable_help_subcommand = true;
        subcommand_required = true;
      };
    })
    c.new.ensures.app

abbrev globals : Command-F Command → Bool
globals f = f.has_globals

pub returns-clause-local : goal.returns-clause-local
returns-clause-local c =
    ap globals c.subcommand_required.ensures ∙ ap globals c.disable_help_subcommand.ensures ∙ ap globals c.disable_help_flag.ensures
    ∙ ap globals c.no_binary_name.ensures ∙ c.new.ensures.local
