-- Products and sums in the order in which they are made, and the first that is no coefficient.
use Rattle.std.specs.Prelude.{ℤ, ◌+ℤ◌, ◌*ℤ◌, true, false, List, [], ◌∷◌, Option, Some, None, if◌then◌else◌}
use Rattle.coef_int.specs.declared.Overflow.{Overflow}
use Rattle.coef_int.specs.Range.{is_coefficient}

-- a product or a sum is written as the overflow that it may be
abbrev pub product_of : ℤ → ℤ → Overflow
product_of x y = record { left = x; right = y; product = true }

abbrev pub sum_of : ℤ → ℤ → Overflow
sum_of x y = record { left = x; right = y; product = false }

-- its exact value
abbrev pub exact_value : Overflow → ℤ
exact_value o = if o.product then o.left *ℤ o.right else o.left +ℤ o.right

-- the first of them whose value is no coefficient
abbrev pub first_overflow : List Overflow → Option Overflow
first_overflow [] = None
first_overflow (o ∷ os) = if is_coefficient (exact_value o) then first_overflow os else Some o
