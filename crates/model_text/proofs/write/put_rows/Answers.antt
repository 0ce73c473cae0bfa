use Rattle.model_text.proofs.Prelude.{rules, ◌≡◌, ◌++◌, part_text}
use Rattle.model_text.proofs.Ranges.{text_put}
use Rattle.model_text.proofs.write.put_rows.Goals as goal

pub loop-row-preserved : goal.loop-row-preserved
loop-row-preserved c =
    let put : c.put_part.new.out.items ≡ c.loop-row.out.items ++ part_text c.args.matrix.now c.loop-row.row = search rules in
    text_put (part_text c.args.matrix.now) c.loop-row.row c.args.out.now.items c.loop-row.out.items c.put_part.new.out.items c.loop-row.invariant put
