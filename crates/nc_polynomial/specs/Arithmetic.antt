-- The results of the calls on the lists of polynomials.
use Rattle.std.specs.Prelude.{ℤ, ◌++◌, List, Result}
use Rattle.definitions.specs.Poly.{Term}
use Rattle.nc_polynomial.specs.declared.fault.PolyFault.{PolyFault}
use Rattle.nc_polynomial.specs.Terms.{scaled, products, negated, added, sums}
use Rattle.nc_polynomial.specs.Faults.{finished}

-- p + q
abbrev pub sum_result : List Term → List Term → Result (List Term) PolyFault
sum_result p q = finished (sums p q) (added p q)

-- p - q, by adding the negated coefficients of q
abbrev pub difference_result : List Term → List Term → Result (List Term) PolyFault
difference_result p q = sum_result p (negated q)

-- k p
abbrev pub multiple_result : ℤ → List Term → Result (List Term) PolyFault
multiple_result k p = finished (products k p) (scaled k p)

-- a p + b q: the products of p, then those of q, then the sums
abbrev pub combined : ℤ → List Term → ℤ → List Term → Result (List Term) PolyFault
combined a p b q = finished (products a p ++ (products b q ++ sums (scaled a p) (scaled b q))) (added (scaled a p) (scaled b q))
