-- The commands, their words, options, ranges and defaults.
use Rattle.std.specs.Prelude.{◌≡◌, ℕ, true, List, [], ◌∷◌, Some, codes}
use Rattle.std.specs.List.{fold}
use Rattle.clap.specs.Words.{App, Rule, Text, new_app, new_rule, with_rule, with_subcommand, fault_of}
use Rattle.clap.specs.declared.builder.ArgAction.TheVariants.{Set, SetTrue}
use Rattle.clap.specs.declared.builder.value_parser.ValueParser.TheVariants as parser
use Rattle.in_order_parallel.specs.Limits.{worker_limit}
use Rattle.command_shape.specs.declared.evidence.EvidenceCommand.{EvidenceCommand}
use Rattle.command_shape.specs.declared.evidence.EvidenceCommand.TheVariants.{Check, Model, Confirm, Explain, Cancel}
use Rattle.command_shape.specs.Limits.{pair_limit, step_limit, seed_limit, format_limit, size_limit}
use Rattle.command_shape.specs.Limits.{default_pairs_word, default_steps_word, default_workers_word, default_seed_word, default_format_word}

-- a word that has to be given, by its place
abbrev pub required_word : Text → Rule
required_word id = record (new_rule id) { required = true }

-- a number from least to most that has to be given, by its place
abbrev pub required_number : Text → ℕ → ℕ → Rule
required_number id least most = record (new_rule id) { required = true; parser = Some (parser.Unsigned least most) }

-- `--id N`, a number from least to most, where `default` stands for an absent one
abbrev pub number_option : Text → ℕ → ℕ → Text → Rule
number_option id least most default = record (new_rule id) {
  long = Some id;
  action = Some Set;
  parser = Some (parser.Unsigned least most);
  defaults = default ∷ [];
}

abbrev pub flag_option : Text → Rule
flag_option id = record (new_rule id) { long = Some id; action = Some SetTrue }

-- the options that more than one command has
abbrev pub workers_option : Rule
workers_option = number_option (codes "workers") 1 worker_limit default_workers_word

abbrev pub seed_option : Rule
seed_option = number_option (codes "seed") 0 seed_limit default_seed_word

abbrev pub prove_command : App
prove_command = with_rule (with_rule (with_rule (with_rule (with_rule (with_rule (with_rule (new_app (codes "prove"))
    (required_word (codes "file")))
    (number_option (codes "pairs") 1 pair_limit default_pairs_word))
    (number_option (codes "steps") 1 step_limit default_steps_word))
    workers_option)
    seed_option)
    (number_option (codes "format") 1 format_limit default_format_word))
    (flag_option (codes "no-models"))

abbrev pub refute_command : App
refute_command = with_rule (with_rule (with_rule (new_app (codes "refute")) (required_word (codes "file"))) workers_option) seed_option

abbrev pub bench_command : App
bench_command = with_rule (with_rule (new_app (codes "bench")) (required_number (codes "size") 1 size_limit)) workers_option

-- the names of the commands of evidence
abbrev pub name_of : EvidenceCommand → Text
name_of Check = codes "check"
name_of Model = codes "model"
name_of Confirm = codes "confirm"
name_of Explain = codes "explain"
name_of Cancel = codes "cancel"

-- a command of a statement and a file of evidence
abbrev pub pair_command : Text → App
pair_command name = with_rule (with_rule (new_app name) (required_word (codes "statement"))) (required_word (codes "evidence"))

-- the words are those after the program's name
abbrev pub bare_command : App
bare_command =
    let a = new_app (codes "opprove") in
    record a { top = record a.top { no_binary_name = true; disable_help_flag = true; disable_help_subcommand = true; subcommand_required = true } }

-- a command of evidence is one of the commands
abbrev pub with_evidence : App → EvidenceCommand → App
with_evidence app command = with_subcommand app (pair_command (name_of command)).top

-- the last ones
abbrev pub last_commands : List EvidenceCommand
last_commands = Confirm ∷ Explain ∷ Cancel ∷ []

unfoldable pub command_set : App
command_set = fold with_evidence
    (with_subcommand (with_evidence (with_subcommand (with_evidence (with_subcommand bare_command prove_command.top) Check) refute_command.top) Model) bench_command.top)
    last_commands

-- clap's stated function of the command set takes the words after the program's name
unfoldable pub IsTaken : List Text → Type 0
IsTaken words = fault_of command_set words ≡ []
