-- The law of the greatest common divisor of two integers.
use Rattle.std.specs.Prelude.{ℕ, ℤ}
use Rattle.std.specs.Int.{◌∣◌, IsNonNegative}
use Rattle.std.specs.Int.RustNames.{unsigned_abs}
use Rattle.coef_int.specs.Divisor.{gcd_of}

-- The integer divides both and isn't negative, and each number that divides both divides it.
pub record IsGreatestDivisor (x y divisor : ℤ) : Type 0 where
  pub left : unsigned_abs divisor ∣ unsigned_abs x
  pub right : unsigned_abs divisor ∣ unsigned_abs y
  pub greatest : (d : ℕ) → d ∣ unsigned_abs x → d ∣ unsigned_abs y → d ∣ unsigned_abs divisor
  pub sign : IsNonNegative divisor

-- The divisor that is computed by division with remainder is the greatest one.
abbrev pub DivisorsAreGreatest : Type 0
DivisorsAreGreatest = (x y : ℤ) → IsGreatestDivisor x y (gcd_of x y)
