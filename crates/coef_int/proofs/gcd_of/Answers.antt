use Rattle.coef_int.proofs.Prelude.{arith, IsGcd-from_mod, IsGcd-from_zero}
use Rattle.coef_int.proofs.gcd_of.Goals as goal

pub loop-right-preserved : goal.loop-right-preserved
loop-right-preserved c = record {
  left_in = c.loop-right.invariant.right_in;
  right_in = omega arith;
  same = λ g h. c.loop-right.invariant.same g (IsGcd-from_mod _ _ g h);
}

pub returns-clause-divisor : goal.returns-clause-divisor
returns-clause-divisor c = c.loop-right.invariant.same _ (IsGcd-from_zero _ _ c.loop-right-test.false)
