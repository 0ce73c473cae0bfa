use Rattle.certificate_text.proofs.Prelude.{◌≡◌, ◌++◌, take, flat_map, row_text}
use Rattle.certificate_text.proofs.write.put_rows.Given as goal

abbrev pub invariant-loop-row : goal.invariant-loop-row
invariant-loop-row l = l.out.items ≡ l.initial.out.items ++ flat_map (row_text l.quiver) (take l.row-index l.rows)
