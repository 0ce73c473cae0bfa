use Rattle.report_text.proofs.Prelude.{rules, ◌≡◌, ◌++◌, ◌+◌, length, head_line, block_text}
use Rattle.report_text.proofs.Verdicts.{entry_put}
use Rattle.report_text.proofs.lines.report.Goals as goal

pub loop-place-preserved : goal.loop-place-preserved
loop-place-preserved c =
    let head : c.put_head.new.out.items ≡ c.loop-place.out.items ++ head_line c.args.quiver.now (length c.args.rules.now) (c.loop-place.place + 1) c.index-verdicts-place.result = search rules in
    let block : c.put_block.new.out.items ≡ c.put_head.new.out.items ++ block_text c.args.quiver.now c.args.rules.now (c.loop-place.place + 1) c.index-verdicts-place.result = search rules in
    entry_put c.args.quiver.now c.args.rules.now c.args.verdicts.now c.loop-place.place c.index-verdicts-place.result c.index-verdicts-place.result c.loop-place.out.items c.put_head.new.out.items c.put_block.new.out.items
    c.loop-place-test.true c.index-verdicts-place.is c.loop-place.invariant head block
