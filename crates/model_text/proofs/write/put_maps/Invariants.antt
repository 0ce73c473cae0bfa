use Rattle.model_text.proofs.Prelude.{◌≡◌, ◌++◌, get_or, None, flat_map, range_with_len, map_text}
use Rattle.model_text.proofs.write.put_maps.Given as goal

abbrev pub invariant-loop-letter : goal.invariant-loop-letter
invariant-loop-letter l = l.out.items ≡ l.initial.out.items ++ flat_map (λ a. map_text l.quiver a (get_or l.maps a None)) (range_with_len 0 l.letter)
