use Rattle.report_text.proofs.Prelude.{rules, ◌≡◌, ◌++◌, ◌+◌, maps_of_step}
use Rattle.report_text.proofs.Ranges.{text_put}
use Rattle.report_text.proofs.bench.put_all_maps.Goals as goal

pub loop-step-preserved : goal.loop-step-preserved
loop-step-preserved c =
    let put : c.put_maps.new.out.items ≡ c.loop-step.out.items ++ maps_of_step (1 + c.loop-step.step) = search rules in
    text_put (maps_of_step) 1 c.loop-step.step c.args.out.now.items c.loop-step.out.items c.put_maps.new.out.items c.loop-step.invariant put
