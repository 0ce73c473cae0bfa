-- Pivots that equations are added to, and the systems that they stand for.
use Rattle.std.specs.Prelude.{◌≡◌, ◌↔◌, ℕ, ◌+◌, ◌<◌, ◌^◌, List, [], ◌++◌, length, Option, All}
use Rattle.definitions.specs.Moduli.{IsFieldModulus}
use Rattle.matrix_models.specs.declared.system.LinearRow.{LinearRow}
use Rattle.matrix_models.specs.declared.system.System.{System}
use Rattle.matrix_models.specs.Systems.{IsSystem, HasNoSolution}
use Rattle.matrix_models.specs.Greedy.{IsGreedy}
use Rattle.matrix_models.specs.Elimination.{Meets, MeetsAll, ArePivots, AreSmall, AreFirsts, row_of}

-- A modulus, and for each unknown its pivot, where it has one.
pub record Pivots : Type 0 where
  pub modulus : ℕ
  pub rows : List (Option (List ℕ))

-- They are pivots over a field, their factors before these places are 0, and the wide row has room for one.
pub record AreRows (p : Pivots) (places wide : List ℕ) : Type 0 where
  pub modulus : IsFieldModulus p.modulus
  pub few : length p.rows < 2 ^ 32
  pub rows : ArePivots (length p.rows) p.rows
  pub small : AreSmall p.modulus p.rows
  pub firsts : AreFirsts p.rows places
  pub room : length wide ≡ length p.rows + 1

-- the row has a factor for each unknown and a right side
abbrev pub HasRowSize : Pivots → List ℕ → Type 0
HasRowSize p row = length row ≡ length p.rows + 1

-- The pivots stand for the system: with its modulus and its unknowns, they hold exactly where its equations do.
pub record StandFor (p : Pivots) (s : System) : Type 0 where
  pub is_system : IsSystem s
  pub modulus : p.modulus ≡ s.modulus
  pub size : length p.rows ≡ s.unknowns
  pub are_pivots : ArePivots s.unknowns p.rows
  pub same : (w : ℕ → ℕ) → MeetsAll s.modulus s.unknowns w p.rows ↔ All (λ equation. Meets s.modulus s.unknowns w (row_of equation)) s.rows

-- the system with no equation
abbrev pub no_equations : ℕ → ℕ → System
no_equations m unknowns = record { modulus = m; unknowns = unknowns; rows = [] }

-- the system with these equations behind its own
abbrev pub with_equations : System → List LinearRow → System
with_equations s more = record { modulus = s.modulus; unknowns = s.unknowns; rows = s.rows ++ more }

-- the new pivots say what the old ones and these equations do
abbrev pub Add : List LinearRow → Pivots → Pivots → Type 0
Add more old new = (s : System) → StandFor old s → StandFor new (with_equations s more)

-- what the pivots stand for has no solution with these equations besides
abbrev pub AreAgainst : List LinearRow → Pivots → Type 0
AreAgainst more p = (s : System) → StandFor p s → HasNoSolution (with_equations s more)

-- the values are the greedy solution of what the pivots stand for
abbrev pub AreGreedyFor : Pivots → List ℕ → List ℕ → Type 0
AreGreedyFor p prefer values = (s : System) → StandFor p s → IsGreedy s prefer values
