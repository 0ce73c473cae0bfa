-- The greedy solution of a system, by preferred values.
use Rattle.std.specs.Prelude.{◌≡◌, ℕ, ◌<◌, ◌≤◌, List, [], ◌∷◌, ◌++◌, take, get_or}
use Rattle.matrix_models.specs.declared.system.System.{System}
use Rattle.matrix_models.specs.Systems.{Solves}

-- There is a solution that begins with these values.
pub record Extends (s : System) (front : List ℕ) : Type 0 where
  pub rest : List ℕ
  pub solves : Solves s (front ++ rest)

-- there is a solution that has the values before this place, and at this place this value
abbrev pub CanTake : System → List ℕ → ℕ → ℕ → Type 0
CanTake s values place value = Extends s (take place values ++ value ∷ [])

-- A solution in which each unknown has its preferred value where it can take that, with the values before it, and else the
-- least value that it can take.
pub record IsGreedy (s : System) (prefer values : List ℕ) : Type 0 where
  pub solves : Solves s values
  pub preferred : (place : ℕ) → place < s.unknowns → CanTake s values place (get_or prefer place 0) → get_or values place 0 ≡ get_or prefer place 0
  pub least : (place value : ℕ) → place < s.unknowns → ¬ CanTake s values place (get_or prefer place 0) → CanTake s values place value
      → get_or values place 0 ≤ value

-- A system and preferred values have at most one greedy solution.
abbrev pub GreedySolutionIsUnique : Type 0
GreedySolutionIsUnique = (s : System) (prefer values others : List ℕ) → IsGreedy s prefer values → IsGreedy s prefer others → values ≡ others

-- There is a greedy solution.
pub record HasGreedySolution (s : System) (prefer : List ℕ) : Type 0 where
  pub values : List ℕ
  pub greedy : IsGreedy s prefer values

-- Each system that has a solution has a greedy one.
abbrev pub SolvableSystemsHaveAGreedySolution : Type 0
SolvableSystemsHaveAGreedySolution = (s : System) (prefer values : List ℕ) → Solves s values → HasGreedySolution s prefer
