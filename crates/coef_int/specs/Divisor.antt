-- The greatest common divisor of two integers.
use Rattle.std.specs.Prelude.{ℕ, zero, suc, ◌%◌, ℤ, pos}
use Rattle.std.specs.Int.RustNames.{unsigned_abs}

-- by repeated division with remainder; the first number bounds how often
abbrev pub gcd_within : ℕ → ℕ → ℕ → ℕ
gcd_within zero a b = a
gcd_within (suc n) a zero = a
gcd_within (suc n) a (suc b) = gcd_within n (suc b) (a % (suc b))

abbrev pub gcd_of : ℤ → ℤ → ℤ
gcd_of x y = pos (gcd_within (suc (unsigned_abs y)) (unsigned_abs x) (unsigned_abs y))
