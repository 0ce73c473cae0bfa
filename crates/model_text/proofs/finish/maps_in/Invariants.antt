use Rattle.model_text.proofs.Prelude.{◌≡◌, map, range_with_len, matrix_in}
use Rattle.model_text.proofs.finish.maps_in.Given as goal

abbrev pub invariant-loop-letter : goal.invariant-loop-letter
invariant-loop-letter l = l.maps ≡ map (matrix_in l.entries) (range_with_len 0 l.letter)
