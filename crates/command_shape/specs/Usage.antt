-- The usage line.
use Rattle.std.specs.Prelude.{List, [], ◌∷◌, ◌++◌, map, codes}
use Rattle.clap.specs.Words.{Text}
use Rattle.command_shape.specs.CommandSet.{command_set}

-- names in a row, with this mark before the first and a bar before each other one
abbrev pub names_after : Text → List Text → Text
names_after mark [] = []
names_after mark (name ∷ names) = mark ++ (name ++ names_after (codes "|") names)

-- the names of the commands, in their order
abbrev pub command_names : List Text
command_names = map (λ command. command.name) command_set.subs

-- how the program is called
abbrev pub usage_text : Text
usage_text = codes "# usage: " ++ (command_set.top.name ++ names_after (codes " ") command_names)
