use Rattle.model_candidates.proofs.Prelude.{◌≡◌, ◌/◌, ◌%◌, map, range_with_len, quiver_of, letter_value}
use Rattle.model_candidates.proofs.letter_numbers.letter_values.Given as goal

-- the values at the places that were passed
abbrev pub invariant-loop-place : goal.invariant-loop-place
invariant-loop-place l =
    l.list ≡ map (λ n. letter_value (quiver_of l.quiver) l.shape l.values l.fn.letter.0 (n / l.columns) (n % l.columns)) (range_with_len 0 l.place)
