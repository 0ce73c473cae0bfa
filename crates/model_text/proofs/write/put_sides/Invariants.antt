use Rattle.model_text.proofs.Prelude.{◌≡◌, ◌++◌, get_or, flat_map, range_with_len, side_text}
use Rattle.model_text.proofs.write.put_sides.Given as goal

abbrev pub invariant-loop-object : goal.invariant-loop-object
invariant-loop-object l = l.out.items ≡ l.initial.out.items ++ flat_map (λ v. side_text l.quiver v (get_or l.sides v 1)) (range_with_len 0 l.object)
