-- The multiplier of a reduction is positive.
use Rattle.std.proofs.Common.{suc, ◌<◌, ◌≤◌, ◌*◌, ◌/◌, ℤ, pos, negsuc, ◌*ℤ◌, ◌<ℤ◌, int_div, arith, zero}
use Rattle.std.proofs.lemmas.Int.{ints}
use Rattle.std.proofs.lemmas.Nat.{le-div}
use Rattle.std.proofs.lemmas.Nat.Gcd.{le_of_dvd}
use Rattle.std.specs.Int.RustNames.{unsigned_abs}
use Rattle.coef_int.proofs.Divisors.{gcd_within-IsGcd, gcd_positive}
use Rattle.coef_int.specs.Divisor.{gcd_within, gcd_of}
use Rattle.rule_reduce.specs.Laws.{MultipliersArePositive}
use Rattle.rule_reduce.specs.NormalForms.{start_of}
use Rattle.rule_reduce.specs.RuleLists.{IsRule}
use Rattle.rule_reduce.specs.Steps.{move_of}
use Rattle.rule_reduce.proofs.Numbers.{rule_at-all}
use Rattle.rule_reduce.proofs.Runs.{reduction_keeps}

product_positive : (a b : ℤ) → pos 0 <ℤ a → pos 0 <ℤ b → pos 0 <ℤ (a *ℤ b)
product_positive (pos zero) b a_above b_above = absurd (omega (arith, ints))
product_positive (pos (suc a)) (pos zero) a_above b_above = absurd (omega (arith, ints))
product_positive (pos (suc a)) (pos (suc b)) a_above b_above = omega (arith, ints)
product_positive (pos (suc a)) (negsuc b) a_above b_above = absurd (omega (arith, ints))
product_positive (negsuc a) b a_above b_above = absurd (omega (arith, ints))

-- a positive number divided by its greatest common divisor with another one
quotient_positive : (c k : ℤ) → pos 0 <ℤ k → pos 0 <ℤ int_div k (gcd_of c k)
quotient_positive c (pos k) above =
    let positive : 0 < k = omega (arith, ints, above) in
    let shared = gcd_within (suc k) (unsigned_abs c) k in
    let is_gcd = gcd_within-IsGcd (suc k) (unsigned_abs c) k (omega arith) in
    let small : 1 * shared ≤ k = omega (arith, le_of_dvd positive is_gcd.1) in
    let whole : 0 < k / shared = le-div 1 k shared (gcd_positive (unsigned_abs c) k shared is_gcd positive) small in
    omega (arith, ints, whole)
quotient_positive c (negsuc k) above = absurd (omega (arith, ints, above))

pub multipliers_are_positive : MultipliersArePositive
multipliers_are_positive letters compare rules p steps s are_rules ends =
    (reduction_keeps (λ t. pos 0 <ℤ t.multiplier) compare rules
    (λ c g t chosen has before. product_positive t.multiplier (move_of c g).by before (quotient_positive c.coefficient g.leading (rule_at-all (IsRule letters compare) rules c.number g has are_rules).positive))
    steps steps (start_of p) s ends (omega (arith, ints))).kept
