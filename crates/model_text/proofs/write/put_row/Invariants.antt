use Rattle.model_text.proofs.Prelude.{◌≡◌, ◌++◌, flat_map, range_with_len, entry_text}
use Rattle.model_text.proofs.write.put_row.Given as goal

abbrev pub invariant-loop-column : goal.invariant-loop-column
invariant-loop-column l = l.out.items ≡ l.initial.out.items ++ flat_map (entry_text l.matrix l.row) (range_with_len 0 l.column)
