use Rattle.model_candidates.proofs.Prelude.{◌≡◌, ◌/◌, ◌%◌, ◌<◌, map, range_with_len, All, quiver_of, entry_shown, value_of_entry}
use Rattle.model_candidates.proofs.given_values.matrix_with.Given as goal

-- the values of the entries that were passed
abbrev pub invariant-loop-place : goal.invariant-loop-place
invariant-loop-place l =
    (l.entries ≡ map (λ n. value_of_entry (quiver_of l.quiver) l.shape l.values (entry_shown (quiver_of l.quiver) l.fn.letter.0 (n / l.columns) (n % l.columns))) (range_with_len 0 l.place))
    × All (λ entry. entry < l.shape.modulus) l.entries
