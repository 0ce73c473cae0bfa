use Rattle.command_shape.proofs.Prelude.{◌≡◌, ◌++◌, codes, map, drop, shape_of, names_after}
use Rattle.command_shape.proofs.usage.put_names.Given as goal
use denote.Shadow.{shadow}
use denote.Text.{Utf8}

-- with the other names, what is appended so far is the whole
abbrev pub invariant-loop-command : goal.invariant-loop-command
invariant-loop-command l = record {
  goes : l.text.items ++ names_after l.mark (map (λ c. (shape_of c).name) (drop l.command-index l.commands))
      ≡ l.initial.text.items ++ names_after (codes " ") (map (λ c. (shape_of c).name) l.commands);
  mark : shadow (Utf8 l.mark);
}
