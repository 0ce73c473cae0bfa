use Rattle.abbreviations.proofs.Prelude.{◌≡◌, map, take, letter_at}
use Rattle.abbreviations.proofs.written.word_at.Given as goal

abbrev pub invariant-loop-name : goal.invariant-loop-name
invariant-loop-name l = l.factors ≡ map (λ name. letter_at l.at name.now) (take l.name-index l.names)
