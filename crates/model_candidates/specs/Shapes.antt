-- What is wrong with a shape, for callers that make one.
use Rattle.std.specs.Prelude.{◌<◌, ℕ, length, take, get_or}
use Rattle.std.specs.List.{All}
use Rattle.definitions.specs.Moduli.{IsFieldModulus}
use Rattle.adjoint_rules.specs.declared.parts.Shape.{Shape}
use Rattle.adjoint_rules.specs.Problem.{IsSide}
use Rattle.model_candidates.specs.declared.shape_fault.ShapeFault.{ShapeFault}
use Rattle.model_candidates.specs.declared.shape_fault.ShapeFault.TheVariants as fault

-- its modulus is one of those of shapes
abbrev pub HasModulus : Shape → Type 0
HasModulus s = IsFieldModulus s.modulus

-- Its modulus is one, and the object with this number is the first whose side isn't from 1 to the limit.
pub record IsFirstBadSide (s : Shape) (object : ℕ) : Type 0 where
  pub modulus : HasModulus s
  pub inside : object < length s.sides
  pub earlier : All IsSide (take object s.sides)
  pub bad : IsSide (get_or s.sides object 0) → ⊥

-- what each fault says of the shape
abbrev pub RefusesShape : Shape → ShapeFault → Type 0
RefusesShape s fault.BadModulus = HasModulus s → ⊥
RefusesShape s (fault.BadSide object) = IsFirstBadSide s object.0
