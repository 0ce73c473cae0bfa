-- Common divisors of the coefficients of a polynomial.
use Rattle.std.specs.Prelude.{ℕ, ℤ, List}
use Rattle.std.specs.Int.{IsNonNegative, ◌∣◌}
use Rattle.std.specs.Int.RustNames.{unsigned_abs}
use Rattle.std.specs.List.{All}
use Rattle.definitions.specs.Poly.{Poly, Term}

-- the number divides each coefficient
abbrev pub DividesEach : ℕ → List Term → Type 0
DividesEach d p = All (λ t. d ∣ unsigned_abs t.0) p

-- The greatest common divisor of the coefficients. That of the polynomial zero is 0.
pub record IsContent (p : Poly) (g : ℤ) : Type 0 where
  pub nonnegative : IsNonNegative g
  pub divides : DividesEach (unsigned_abs g) p
  pub greatest : (d : ℕ) → DividesEach d p → d ∣ unsigned_abs g
