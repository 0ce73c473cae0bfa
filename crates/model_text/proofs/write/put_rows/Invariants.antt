use Rattle.model_text.proofs.Prelude.{◌≡◌, ◌++◌, flat_map, range_with_len, part_text}
use Rattle.model_text.proofs.write.put_rows.Given as goal

abbrev pub invariant-loop-row : goal.invariant-loop-row
invariant-loop-row l = l.out.items ≡ l.initial.out.items ++ flat_map (part_text l.matrix) (range_with_len 0 l.row)
