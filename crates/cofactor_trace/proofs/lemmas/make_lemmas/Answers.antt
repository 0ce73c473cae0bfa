use Rattle.cofactor_trace.proofs.Prelude.{length, IsRecord}
use Rattle.cofactor_trace.proofs.NamedRecords.{of_record}
use Rattle.cofactor_trace.proofs.lemmas.make_lemmas.Goals as goal

pub make_lemma-requires : goal.make_lemma-requires
make_lemma-requires c = of_record c.args.lemmas.now c.loop-lemma.lemma-index c.lemma-item.result c.loop-lemma-test.true c.lemma-item.is (IsRecord (length c.args.replacements.now)) c.requires
