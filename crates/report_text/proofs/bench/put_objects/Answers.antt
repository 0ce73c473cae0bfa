use Rattle.report_text.proofs.Prelude.{rules, ◌≡◌, ◌++◌, ◌+◌, codes, numbered}
use Rattle.report_text.proofs.Ranges.{text_put}
use Rattle.report_text.proofs.bench.put_objects.Goals as goal

pub loop-object-preserved : goal.loop-object-preserved
loop-object-preserved c =
    let put : c.put_numbered.new.out.items ≡ c.loop-object.out.items ++ numbered (codes " O") (0 + c.loop-object.object) = search rules in
    text_put (numbered (codes " O")) 0 c.loop-object.object c.args.out.now.items c.loop-object.out.items c.put_numbered.new.out.items c.loop-object.invariant put
