use Rattle.certificate_text.proofs.Prelude.{rules, IsLemmaOver, lemma_text}
use Rattle.certificate_text.proofs.LemmaTexts.{next_put, holds_there}
use Rattle.certificate_text.proofs.evidence.put_lemmas.Goals as goal

pub put_lemma-requires : goal.put_lemma-requires
put_lemma-requires c = holds_there (IsLemmaOver c.args.quiver.now) c.args.lemmas.now c.loop-lemma.lemma-index c.lemma-item.result c.lemma-item.result c.requires c.loop-lemma-test.true c.lemma-item.is

pub loop-lemma-preserved : goal.loop-lemma-preserved
loop-lemma-preserved c =
    next_put (lemma_text c.args.quiver.now) c.args.lemmas.now c.args.out.now.items c.loop-lemma.lemma-index c.loop-lemma.number c.lemma-item.result c.lemma-item.result c.loop-lemma.out.items c.put_lemma.new.out.items c.loop-lemma.invariant c.loop-lemma-test.true c.lemma-item.is (search rules)
