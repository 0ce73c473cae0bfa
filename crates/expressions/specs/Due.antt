-- A polynomial with marks after it, of which the last adjoint isn't taken yet.
use Rattle.std.specs.Prelude.{Result, Ok, if◌then◌else◌}
use Rattle.definitions.specs.Poly.{Poly}
use Rattle.definitions.specs.Quiver.{Quiver}
use Rattle.definitions.specs.Generators.{adjoint_poly}
use Rattle.nc_polynomial.specs.declared.fault.PolyFault.{PolyFault}
use Rattle.nc_polynomial.specs.Collected.{collection_result}
use Rattle.statement_syntax.specs.declared.tree.Mark.{Mark}
use Rattle.expressions.specs.Polynomials.{mark_poly}
use Rattle.expressions.specs.Results.{◌>>=◌}
use Rattle.expressions.specs.declared.powers.Marked.{Marked}

-- the polynomial that it represents
abbrev pub due_poly : Quiver → Marked → Result Poly PolyFault
due_poly q m = if m.due then collection_result (adjoint_poly q m.poly.terms) else Ok m.poly.terms

-- that polynomial with one mark more
abbrev pub due_marked : Quiver → Marked → Mark → Result Poly PolyFault
due_marked q m mark = due_poly q m >>= mark_poly q mark
