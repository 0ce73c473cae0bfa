-- The least common multiple of integers.
use Rattle.std.specs.Prelude.{ℕ, ℤ, pos, ◌<ℤ◌, List, ◌∷◌}
use Rattle.std.specs.List.{All}
use Rattle.std.specs.Int.{◌∣◌}
use Rattle.std.specs.Int.RustNames.{unsigned_abs}
use Rattle.cofactor_trace.specs.Expansion.{common_multiple}

-- Each of the integers divides the multiple, which divides each number that all of them divide, and is positive where they are.
pub record IsLeastMultiple (integers : List ℤ) (multiple : ℤ) : Type 0 where
  pub each : All (λ z. unsigned_abs z ∣ unsigned_abs multiple) integers
  pub least : (m : ℕ) → All (λ z. unsigned_abs z ∣ m) integers → unsigned_abs multiple ∣ m
  pub positive : All (λ z. pos 0 <ℤ z) integers → pos 0 <ℤ multiple

-- The multiple that is computed by products and greatest common divisors, in order, is the least one.
abbrev pub MultiplesAreLeast : Type 0
MultiplesAreLeast = (x : ℤ) (ys : List ℤ) → IsLeastMultiple (x ∷ ys) (common_multiple x ys)
