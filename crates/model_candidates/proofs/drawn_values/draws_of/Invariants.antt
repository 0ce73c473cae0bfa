use Rattle.model_candidates.proofs.Prelude.{◌≡◌, ◌+◌, ◌*◌, ◌%◌, map, range_with_len, advance, started, increment_of, multiplier_64, word_of_stream}
use Rattle.model_candidates.proofs.drawn_values.draws_of.Given as goal

-- the draws of the entries that were passed, and the stream behind their words
abbrev pub invariant-loop-place : goal.invariant-loop-place
invariant-loop-place l =
    (l.values ≡ map (λ j. word_of_stream l.fn.seed l.fn.number (l.fn.candidate * l.fn.count + j) % l.fn.modulus) (range_with_len 0 l.place))
    × (l.stream ≡ advance 64 multiplier_64 (l.fn.candidate * l.fn.count + l.place) (started 64 multiplier_64 l.fn.seed (increment_of 64 l.fn.number)))
