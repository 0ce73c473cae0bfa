-- Coefficients: the integers of absolute value below 2^127.
use Rattle.std.specs.Prelude.{◌<◌, ◌^◌, ℤ, Bool, nat_lt}
use Rattle.std.specs.Int.RustNames.{unsigned_abs}

abbrev pub IsCoefficient : ℤ → Type 0
IsCoefficient z = unsigned_abs z < 2 ^ 127

-- whether the integer is a coefficient
abbrev pub is_coefficient : ℤ → Bool
is_coefficient z = nat_lt (unsigned_abs z) (2 ^ 127)
