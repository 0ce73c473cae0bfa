use Rattle.report_text.proofs.Prelude.{rules, ◌≡◌, ◌++◌, ◌+◌, codes, numbered}
use Rattle.report_text.proofs.Ranges.{text_put}
use Rattle.report_text.proofs.bench.put_there.Goals as goal

pub loop-step-preserved : goal.loop-step-preserved
loop-step-preserved c =
    let put : c.put_numbered.new.out.items ≡ c.loop-step.out.items ++ numbered (codes " a") (1 + c.loop-step.step) = search rules in
    text_put (numbered (codes " a")) 1 c.loop-step.step c.args.out.now.items c.loop-step.out.items c.put_numbered.new.out.items c.loop-step.invariant put
