use Rattle.model_text.proofs.Prelude.{◌≡◌, map, range_with_len, side_in}
use Rattle.model_text.proofs.finish.sides_in.Given as goal

abbrev pub invariant-loop-object : goal.invariant-loop-object
invariant-loop-object l = l.sides ≡ map (side_in l.entries) (range_with_len 0 l.object)
