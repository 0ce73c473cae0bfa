use Rattle.certificate_text.proofs.Prelude.{◌≡◌, ◌++◌, take, flat_map, lemma_row_text}
use Rattle.certificate_text.proofs.evidence.put_lemma_rows.Given as goal

abbrev pub invariant-loop-row : goal.invariant-loop-row
invariant-loop-row l = l.out.items ≡ l.initial.out.items ++ flat_map (lemma_row_text l.quiver) (take l.row-index l.rows)
