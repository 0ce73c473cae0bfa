use Rattle.equation_chain.proofs.Prelude.{◌≡◌, map, range_with_len, letter_text}
use Rattle.equation_chain.proofs.text.letter_texts.Given as goal

-- the texts of the letters so far
abbrev pub invariant-loop-number : goal.invariant-loop-number
invariant-loop-number l = l.texts ≡ map (letter_text l.quiver) (range_with_len 0 l.number)
