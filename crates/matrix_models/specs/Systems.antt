-- Systems of linear equations over the integers modulo a prime, and what solves them.
use Rattle.std.specs.Prelude.{◌≡◌, ℕ, ◌*◌, ◌%◌, ◌<◌, List, length, get_or, All}
use Rattle.definitions.specs.Moduli.{IsFieldModulus}
use Rattle.matrix_models.specs.Matrices.{total}
use Rattle.matrix_models.specs.declared.system.LinearRow.{LinearRow}
use Rattle.matrix_models.specs.declared.system.System.{System}

-- An equation has one factor for each unknown, and numbers below the modulus.
pub record IsEquation (m unknowns : ℕ) (row : LinearRow) : Type 0 where
  pub one_each : length row.factors ≡ unknowns
  pub factors_below : All (λ factor. factor < m) row.factors
  pub right_below : row.right < m

-- What is asked of a system.
pub record IsSystem (s : System) : Type 0 where
  pub modulus : IsFieldModulus s.modulus
  pub rows : All (IsEquation s.modulus s.unknowns) s.rows

-- One number below the modulus for each unknown.
pub record AreValues (s : System) (values : List ℕ) : Type 0 where
  pub one_each : length values ≡ s.unknowns
  pub below : All (λ value. value < s.modulus) values

-- the sum of the factors times the values is congruent to the right side modulo m
abbrev pub Holds : ℕ → List ℕ → LinearRow → Type 0
Holds m values row = total (length row.factors) (λ k. get_or row.factors k 0 * get_or values k 0) % m ≡ row.right % m

-- The values solve the system.
pub record Solves (s : System) (values : List ℕ) : Type 0 where
  pub are_values : AreValues s values
  pub each_holds : All (Holds s.modulus values) s.rows

-- no values do
abbrev pub HasNoSolution : System → Type 0
HasNoSolution s = (values : List ℕ) → ¬ Solves s values
