-- Bases over the letters of a quiver.
use Rattle.std.specs.Prelude.{List}
use Rattle.std.specs.List.{All}
use Rattle.quiver.specs.Declarations.{Declaration}
use Rattle.quiver.specs.Over.{IsPolyOver}
use Rattle.adjoint_rules.specs.declared.basis.Basis.{Basis}

-- The letters of its polynomials are letters of the quiver.
pub record IsBasisOver (ds : List Declaration) (b : Basis) : Type 0 where
  pub rules : All (IsPolyOver ds) b.rules
  pub rest : IsPolyOver ds b.rest
