use Rattle.certificate_text.proofs.Prelude.{sym, subst, All-get_or, IsRowOver}
use Rattle.certificate_text.proofs.write.put_rows.Goals as goal

pub put_row-requires : goal.put_row-requires
put_row-requires c =
    subst (IsRowOver c.args.quiver.now) (sym c.row-item.is)
    (All-get_or (IsRowOver c.args.quiver.now) c.args.rows.now c.loop-row.row-index c.row-item.result c.loop-row-test.true c.requires)
