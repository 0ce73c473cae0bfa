-- Rows over generators and rules, and their sum.
use Rattle.std.specs.Prelude.{List, [], ◌∷◌}
use Rattle.traced_rows.specs.declared.Origin.{Origin}
use Rattle.traced_rows.specs.declared.Origin.TheVariants as origin
use Rattle.traced_rows.specs.declared.Row.{Row}
use Rattle.definitions.specs.Poly.{Poly, poly_sum, poly_multiple, poly_between}
use Rattle.definitions.specs.Combination.{generator_at}

-- the generator or the rule, or the zero polynomial where there is none with the number
abbrev pub origin_poly : List Poly → List Poly → Origin → Poly
origin_poly generators rules (origin.Generator n) = generator_at generators n
origin_poly generators rules (origin.Rule n) = generator_at rules n

-- c l g r as a polynomial
abbrev pub traced_poly : List Poly → List Poly → Row → Poly
traced_poly generators rules r = poly_multiple r.coef (poly_between r.left (origin_poly generators rules r.from) r.right)

-- the sum of the rows
abbrev pub traced_sum : List Poly → List Poly → List Row → Poly
traced_sum generators rules [] = []
traced_sum generators rules (r ∷ rows) = poly_sum (traced_poly generators rules r) (traced_sum generators rules rows)
