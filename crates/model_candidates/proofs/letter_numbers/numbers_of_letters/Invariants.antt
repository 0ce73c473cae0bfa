use Rattle.model_candidates.proofs.Prelude.{◌≡◌, map, range_with_len, quiver_of, letter_numbers}
use Rattle.model_candidates.proofs.letter_numbers.numbers_of_letters.Given as goal

-- the numbers of the letters that were passed
abbrev pub invariant-loop-number : goal.invariant-loop-number
invariant-loop-number l = l.numbers ≡ map (letter_numbers (quiver_of l.problem.parts.quiver) l.shape l.problem.parts.solved) (range_with_len 0 l.number)
