-- Numbers by their decimal digits.
use Rattle.std.specs.Prelude.{ℕ, ◌+◌, ◌*◌, pos, neg_ℤ, Bool, List, [], ◌∷◌, if◌then◌else◌}
use Rattle.normal_forms.specs.Fractions.{Fraction}

-- the number with these digits, the last one first
abbrev pub number_of : List ℕ → ℕ
number_of [] = 0
number_of (digit ∷ digits) = digit + 10 * number_of digits

-- the one number over the other, with a sign
abbrev pub fraction_of : Bool → List ℕ → List ℕ → Fraction
fraction_of negative top bottom = record { top = if negative then neg_ℤ (pos (number_of top)) else pos (number_of top); bottom = number_of bottom }
