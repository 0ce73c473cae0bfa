use Rattle.certificate_text.proofs.Prelude.{sym, subst, All-get_or, IsLemmaRowOver}
use Rattle.certificate_text.proofs.evidence.put_lemma_rows.Goals as goal

pub put_lemma_row-requires : goal.put_lemma_row-requires
put_lemma_row-requires c =
    subst (IsLemmaRowOver c.args.quiver.now) (sym c.row-item.is)
    (All-get_or (IsLemmaRowOver c.args.quiver.now) c.args.rows.now c.loop-row.row-index c.row-item.result c.loop-row-test.true c.requires)
