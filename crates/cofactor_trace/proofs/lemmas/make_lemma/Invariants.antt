use Rattle.cofactor_trace.proofs.Prelude.{◌≡◌, map, take, lemma_row, named_in}
use Rattle.cofactor_trace.proofs.lemmas.make_lemma.Given as goal

abbrev pub invariant-loop-row : goal.invariant-loop-row
invariant-loop-row l = l.rows ≡ map (lemma_row (named_in l.replacements)) (take l.row-index l.row-items)
