use Rattle.model_text.proofs.Prelude.{rules, ◌≡◌, ◌++◌, entry_text}
use Rattle.model_text.proofs.Ranges.{text_put}
use Rattle.model_text.proofs.write.put_row.Goals as goal

pub loop-column-preserved : goal.loop-column-preserved
loop-column-preserved c =
    let put : c.put_entry.new.out.items ≡ c.loop-column.out.items ++ entry_text c.args.matrix.now c.args.row c.loop-column.column = search rules in
    text_put (entry_text c.args.matrix.now c.args.row) c.loop-column.column c.args.out.now.items c.loop-column.out.items c.put_entry.new.out.items c.loop-column.invariant put
