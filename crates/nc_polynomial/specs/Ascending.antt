-- Words with their coefficients, ascending.
use Rattle.std.specs.Prelude.{ℕ, ℤ, List, [], ◌∷◌}
use Rattle.definitions.specs.Poly.{Term}
use Rattle.nc_polynomial.specs.Terms.{keep}

-- the nonzero ones of them as terms, the last one first, before others
abbrev pub reversed : List (List ℕ × ℤ) → List Term → List Term
reversed [] later = later
reversed (e ∷ entries) later = reversed entries (keep e.1 e.0 later)
