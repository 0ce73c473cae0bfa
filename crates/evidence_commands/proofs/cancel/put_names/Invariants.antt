use Rattle.evidence_commands.proofs.Prelude.{◌≡◌, ◌++◌, take, names_text}
use Rattle.evidence_commands.proofs.cancel.put_names.Given as goal

abbrev pub invariant-loop-letter : goal.invariant-loop-letter
invariant-loop-letter l = l.out.items ≡ l.initial.out.items ++ names_text l.quiver (take l.letter-index l.letters)
