-- What it means that a claim of a file is proved, by the equations of the file.
use Rattle.std.specs.Prelude.{◌≡◌, ℕ, zero, suc, ℤ, false, List, slice_get, Some}
use Rattle.std.specs.List.{AllByRecursion}
use Rattle.definitions.specs.Category.{Structure, InvolutionLaws}
use Rattle.definitions.specs.Quiver.{Quiver}
use Rattle.definitions.specs.Representation.{Representation, Represents, StarRepresents, Cancels}
use Rattle.quiver.specs.Declarations.{quiver_of}
use Rattle.statement_syntax.specs.declared.tree.Statement.{Statement}
use Rattle.abbreviations.specs.declared.written.Equation.{Equation}
use Rattle.abbreviations.specs.Written.{assumptions_of, claims_of}
use Rattle.statement_names.specs.Numbered.{declarations_of}
use Rattle.statement_names.specs.Starred.{is_starred}
use Rattle.statement_meaning.specs.Values.{Reading, Holds}

-- the quiver of the objects and maps that the file declares
abbrev pub quiver_in : List Statement → Quiver
quiver_in statements = quiver_of (declarations_of statements)

-- the file is read with an involution, in a representation of this quiver
abbrev pub read_in : {Object Arrow : Type 0} → Structure Object Arrow → (Arrow → Arrow) → List Statement → Representation Object Arrow → Reading Object Arrow
read_in s involution statements f = record { category = s; involution = involution; names = declarations_of statements; maps = f }

-- all assumptions of the file hold, abbreviations written out
abbrev pub AssumptionsHold : {Object Arrow : Type 0} → Reading Object Arrow → List Statement → Type 0
AssumptionsHold r statements = AllByRecursion (λ e. Holds r e.left e.right) (assumptions_of r.names statements)

-- the equation is the claim of the file with this number, counted from 1
abbrev pub IsClaim : List Statement → ℕ → Equation → Type 0
IsClaim statements zero e = ⊥
IsClaim statements (suc n) e = slice_get (claims_of statements) n ≡ Some e

-- the claim with this number holds; where there is none, nothing is claimed
pub record ClaimHolds {Object Arrow : Type 0} (r : Reading Object Arrow) (statements : List Statement) (number : ℕ) : Type 0 where
  pub at : (e : Equation) → IsClaim statements number e → Holds r e.left e.right

-- The claim is proved with the denominator d: wherever d cancels (for every arrow a, d a = 0 only where a = 0) and the assumptions hold, the claim
-- holds; whatever the involution, in each star representation, and, where the file isn't starred, in each representation.
pub record ProvesClaim {Object Arrow : Type 0} (s : Structure Object Arrow) (statements : List Statement) (number : ℕ) (d : ℤ) : Type 0 where
  pub by_star : (involution : Arrow → Arrow) → InvolutionLaws s involution → (f : Representation Object Arrow)
      → StarRepresents s involution (quiver_in statements) f → Cancels s d
      → AssumptionsHold (read_in s involution statements f) statements → ClaimHolds (read_in s involution statements f) statements number
  -- The quiver has a letter for the adjoint of each map in every file. No equation of one that isn't starred has it, so that any arrow the other
  -- way serves, a zero say; and nothing is required of the involution.
  pub plain : is_starred statements ≡ false → (involution : Arrow → Arrow) (f : Representation Object Arrow)
      → Represents s (quiver_in statements) f → Cancels s d
      → AssumptionsHold (read_in s involution statements f) statements → ClaimHolds (read_in s involution statements f) statements number
