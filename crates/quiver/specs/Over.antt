-- Polynomials over the letters of a quiver.
use Rattle.std.specs.Prelude.{List}
use Rattle.std.specs.List.{All}
use Rattle.word_core.specs.Letters.{IsOver}
use Rattle.nc_polynomial.specs.declared.poly.Poly.{Poly}
use Rattle.quiver.specs.Declarations.{Declaration, letter_count}

-- the letters of the polynomial are letters of the quiver
abbrev pub IsPolyOver : List Declaration → Poly → Type 0
IsPolyOver ds p = All (λ t. IsOver (letter_count ds) t.1) p.terms
