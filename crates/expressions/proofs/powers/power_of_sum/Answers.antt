use Rattle.expressions.proofs.Prelude.{rules, ◌≡◌, Ok, ◌∙◌, arith, product_result}
use Rattle.expressions.proofs.Copies.{power-next}
use Rattle.expressions.proofs.powers.power_of_sum.Goals as goal

pub loop-preserved : goal.loop-preserved
loop-preserved c =
    let made : product_result c.loop.power.terms c.args.base.now.terms ≡ Ok c.in_ok-power-2.power.terms = search rules in
    record {
      rest = power-next c.args.base.now.terms c.loop.power.terms c.args.factors c.loop.counter c.loop-test.true c.in_ok-power-2.power.terms made ∙ c.loop.invariant.rest;
      begun = omega (arith, c.loop.invariant.begun);
    }
