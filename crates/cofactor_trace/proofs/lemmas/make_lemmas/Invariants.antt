use Rattle.cofactor_trace.proofs.Prelude.{◌≡◌, map, take, lemma_of, named_in, records}
use Rattle.cofactor_trace.proofs.lemmas.make_lemmas.Given as goal

abbrev pub invariant-loop-lemma : goal.invariant-loop-lemma
invariant-loop-lemma l = l.made ≡ map (lemma_of (named_in l.replacements)) (records (take l.lemma-index l.lemmas))
