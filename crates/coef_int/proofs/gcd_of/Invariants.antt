use Rattle.coef_int.proofs.Prelude.{ℕ, ◌<◌, ◌^◌, IsGcd}
use Rattle.coef_int.proofs.gcd_of.Given as goal

abbrev pub invariant-loop-right : goal.invariant-loop-right
invariant-loop-right l = record {
  left_in : l.left < 2 ^ 127;
  right_in : l.right < 2 ^ 127;
  same : (g : ℕ) → IsGcd l.left l.right g → IsGcd l.fn.left l.fn.right g;
}

abbrev pub decreases-loop-right : goal.decreases-loop-right
decreases-loop-right l = l.right
