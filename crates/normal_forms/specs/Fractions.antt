-- Fractions: an integer over a positive one, in lowest terms.
use Rattle.std.specs.Prelude.{◌≡◌, ℕ, zero, suc, ◌*◌, ◌/◌, ◌<◌, ℤ, pos, negsuc, ◌+ℤ◌, ◌*ℤ◌, neg_ℤ, Bool, true, false}
use Rattle.std.specs.Int.{◌∣◌}
use Rattle.std.specs.Int.RustNames.{unsigned_abs}
use Rattle.coef_int.specs.Divisor.{gcd_of}
use Rattle.normal_forms.specs.Numbers.{Numbers}

pub record Fraction : Type 0 where
  pub top : ℤ
  pub bottom : ℕ

-- The lower integer is positive, and no number above 1 divides both.
pub record IsLowest (top : ℤ) (bottom : ℕ) : Type 0 where
  pub positive : 0 < bottom
  pub apart : (d : ℕ) → d ∣ unsigned_abs top → d ∣ bottom → d ≡ 1

abbrev pub is_zero : ℤ → Bool
is_zero (pos zero) = true
is_zero (pos (suc n)) = false
is_zero (negsuc n) = false

-- an integer by a number that divides it
abbrev pub quotient : ℤ → ℕ → ℤ
quotient (pos n) g = pos (n / g)
quotient (negsuc n) g = neg_ℤ (pos (suc n / g))

-- the one over the other, by their greatest common divisor; over zero it is zero
unfoldable pub over : ℤ → ℕ → Fraction
over a zero = record { top = pos 0; bottom = 1 }
over a (suc b) =
    let g = unsigned_abs (gcd_of a (pos (suc b))) in
    record { top = quotient a g; bottom = suc b / g }

unfoldable pub fraction_sum : Fraction → Fraction → Fraction
fraction_sum x y = over (x.top *ℤ pos y.bottom +ℤ y.top *ℤ pos x.bottom) (x.bottom * y.bottom)

unfoldable pub fraction_product : Fraction → Fraction → Fraction
fraction_product x y = over (x.top *ℤ y.top) (x.bottom * y.bottom)

unfoldable pub fraction_negative : Fraction → Fraction
fraction_negative x = record { top = neg_ℤ x.top; bottom = x.bottom }

unfoldable pub whole : ℤ → Fraction
whole a = record { top = a; bottom = 1 }

unfoldable pub part_of : ℕ → Fraction
part_of n = over (pos 1) n

abbrev pub fractions : Numbers Fraction
fractions = record {
  none = whole (pos 0);
  one = whole (pos 1);
  plus = fraction_sum;
  minus = fraction_negative;
  times = fraction_product;
  int = whole;
  part = part_of;
  is_none = λ x. is_zero x.top;
}
