-- The adjoints and the relations of identities among the generators.
use Rattle.std.specs.Prelude.{◌≡◌, ℕ, List, [], Option, option_to_list, if◌then◌else◌}
use Rattle.std.specs.List.{AllZip, flat_map}
use Rattle.definitions.specs.Poly.{Term, SamePolynomial}
use Rattle.definitions.specs.Quiver.{Quiver}
use Rattle.definitions.specs.Generators.{new_adjoint, units}
use Rattle.nc_polynomial.specs.declared.poly.Poly.{Poly}
use Rattle.quiver.specs.Declarations.{quiver_of}
use Rattle.adjoint_rules.specs.declared.parts.Parts.{Parts}
use Rattle.adjoint_rules.specs.Problem.{polynomials, numbers}

-- In each quiver whose letters have these adjoints it is the adjoint of p, or None where that is plus or minus p.
abbrev pub IsNewAdjoint : List ℕ → List Term → Option Poly → Type 0
IsNewAdjoint stars p adjoint = (q : Quiver) → q.stars ≡ stars → AllZip SamePolynomial (polynomials (option_to_list adjoint)) (new_adjoint q p)

-- the adjoints of the assumptions, where the statement is starred
abbrev pub adjoints_in : Parts → List (List Term)
adjoints_in p = if p.starred then flat_map (new_adjoint (quiver_of p.quiver)) (polynomials p.assumptions) else []

-- the relations of the marked identities
abbrev pub units_in : Parts → List (List Term)
units_in p = flat_map (units (quiver_of p.quiver) p.starred) (numbers p.marked)
