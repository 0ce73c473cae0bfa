use Rattle.report_text.proofs.Prelude.{rules, ◌≡◌, ◌++◌, ◌+◌, assumption_of_step}
use Rattle.report_text.proofs.Ranges.{text_put}
use Rattle.report_text.proofs.bench.put_assumptions.Goals as goal

pub loop-step-preserved : goal.loop-step-preserved
loop-step-preserved c =
    let put : c.put_assumption.new.out.items ≡ c.loop-step.out.items ++ assumption_of_step (1 + c.loop-step.step) = search rules in
    text_put (assumption_of_step) 1 c.loop-step.step c.args.out.now.items c.loop-step.out.items c.put_assumption.new.out.items c.loop-step.invariant put
