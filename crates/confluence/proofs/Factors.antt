-- The factors of the two rows of an S-polynomial.
use Rattle.std.proofs.Common.{◌≡◌, ℕ, suc, ◌<◌, ◌≤◌, ◌*◌, ◌/◌, ℤ, pos, negsuc, ◌<ℤ◌, int_div, refl, arith}
use Rattle.std.proofs.Math.Nat.{pos_of_dvd_of_pos}
use Rattle.std.proofs.lemmas.Int.{ints}
use Rattle.std.proofs.lemmas.Nat.{le-div}
use Rattle.std.proofs.lemmas.Nat.Gcd.{le_of_dvd}
use Rattle.std.specs.Int.{◌∣◌}
use Rattle.coef_int.proofs.Divisors.{gcd_within-IsGcd}
use Rattle.coef_int.specs.Divisor.{gcd_within, gcd_of}

pub record Factors (k l : ℤ) : Type 0 where
  pub one : ℕ
  pub other : ℕ
  pub one_is : int_div l (gcd_of k l) ≡ pos one
  pub other_is : int_div k (gcd_of k l) ≡ pos other
  pub one_positive : 0 < one
  pub other_positive : 0 < other

quotient_positive : (a g : ℕ) → 0 < a → g ∣ a → 0 < a / g
quotient_positive a g above divides = le-div 1 a g (pos_of_dvd_of_pos divides above) (once a g (le_of_dvd above divides))
  where
    once : (m n : ℕ) → n ≤ m → 1 * n ≤ m
    once m n h = omega arith

pub factors : (k l : ℤ) → pos 0 <ℤ k → pos 0 <ℤ l → Factors k l
factors (pos a) (pos b) k_above l_above =
    let g = gcd_within (suc b) a b in
    let is_gcd = gcd_within-IsGcd (suc b) a b (omega arith) in
    let a_above : 0 < a = omega (arith, ints, k_above) in
    let b_above : 0 < b = omega (arith, ints, l_above) in
    record {
      one = b / g;
      other = a / g;
      one_is = refl;
      other_is = refl;
      one_positive = quotient_positive b g b_above is_gcd.1;
      other_positive = quotient_positive a g a_above is_gcd.0;
    }
factors (pos a) (negsuc b) k_above l_above = absurd (omega (arith, ints, l_above))
factors (negsuc a) l k_above l_above = absurd (omega (arith, ints, k_above))
