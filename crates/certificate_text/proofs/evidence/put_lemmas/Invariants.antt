use Rattle.certificate_text.proofs.Prelude.{◌≡◌, ◌++◌, ◌+◌, take, lemmas_text}
use Rattle.certificate_text.proofs.evidence.put_lemmas.Given as goal

abbrev pub invariant-loop-lemma : goal.invariant-loop-lemma
invariant-loop-lemma l = (l.out.items ≡ l.initial.out.items ++ lemmas_text l.quiver 1 (take l.lemma-index l.lemmas)) × (l.number ≡ l.lemma-index + 1)
