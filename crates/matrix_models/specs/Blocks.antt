-- Blocks of unknowns that share no equation with the other unknowns, and how they are solved apart.
use Rattle.std.specs.Prelude.{◌≡◌, ◌↔◌, ◌⊎◌, ℕ, ◌<◌, Bool, nat_eq, IsTrue, IsFalse, List, map, get_or, All, Contains}
use Rattle.std.specs.List.{range_with_len}
use Rattle.matrix_models.specs.declared.system.LinearRow.{LinearRow}
use Rattle.matrix_models.specs.declared.system.System.{System}
use Rattle.matrix_models.specs.Systems.{Solves}
use Rattle.matrix_models.specs.Greedy.{IsGreedy}

-- Each unknown that is not in the block has the factor 0.
abbrev pub IsWithin : (ℕ → Bool) → LinearRow → Type 0
IsWithin block row = (place : ℕ) → IsFalse (block place) → get_or row.factors place 0 ≡ 0

-- Each unknown of the block has the factor 0.
abbrev pub IsOutside : (ℕ → Bool) → LinearRow → Type 0
IsOutside block row = (place : ℕ) → IsTrue (block place) → get_or row.factors place 0 ≡ 0

-- The part of a system that is for a block: equations within the block, while the others have no unknown of it.
pub record IsPart (block : ℕ → Bool) (s part : System) : Type 0 where
  pub same_modulus : part.modulus ≡ s.modulus
  pub same_unknowns : part.unknowns ≡ s.unknowns
  pub from_system : All (Contains s.rows) part.rows
  pub within_block : All (IsWithin block) part.rows
  pub others_outside : All (λ row. Contains part.rows row ⊎ IsOutside block row) s.rows

-- A greedy solution of a system, and one of its part for a block, give each unknown of the block the same value.
abbrev pub BlocksAreSolvedApart : Type 0
BlocksAreSolvedApart = (block : ℕ → Bool) (s part : System) (prefer values others : List ℕ) → IsPart block s part
    → IsGreedy s prefer values → IsGreedy part prefer others
    → (place : ℕ) → place < s.unknowns → IsTrue (block place) → get_or values place 0 ≡ get_or others place 0

-- the unknowns of the block with this number
abbrev pub numbered : (ℕ → ℕ) → ℕ → ℕ → Bool
numbered block_of number place = nat_eq (block_of place) number

-- Parts for blocks that are numbered below the count. Each unknown is in a block, and each equation is in a part.
pub record AreParts (block_of : ℕ → ℕ) (count : ℕ) (s : System) (parts : ℕ → System) : Type 0 where
  pub each_part : (number : ℕ) → number < count → IsPart (numbered block_of number) s (parts number)
  pub each_unknown : (place : ℕ) → place < s.unknowns → block_of place < count
  pub each_row : All (λ row. (number : ℕ) × (number < count) × Contains (parts number).rows row) s.rows

-- There are values that solve the system.
pub record HasSolution (s : System) : Type 0 where
  pub values : List ℕ
  pub solves : Solves s values

-- A system has a solution exactly where each of its parts has one.
abbrev pub SystemsAreSolvableByParts : Type 0
SystemsAreSolvableByParts = (block_of : ℕ → ℕ) (count : ℕ) (s : System) (parts : ℕ → System) → AreParts block_of count s parts
    → HasSolution s ↔ ((number : ℕ) → number < count → HasSolution (parts number))

-- each unknown's value in the list of its block
abbrev pub joined : (ℕ → ℕ) → ℕ → (ℕ → List ℕ) → List ℕ
joined block_of unknowns lists = map (λ place. get_or (lists (block_of place)) place 0) (range_with_len 0 unknowns)

-- The greedy solutions of the parts, joined, are one of the system.
abbrev pub GreedySolutionsAreJoined : Type 0
GreedySolutionsAreJoined = (block_of : ℕ → ℕ) (count : ℕ) (s : System) (parts : ℕ → System) (prefer : List ℕ) (solutions : ℕ → List ℕ)
    → AreParts block_of count s parts → ((number : ℕ) → number < count → IsGreedy (parts number) prefer (solutions number))
    → IsGreedy s prefer (joined block_of s.unknowns solutions)
