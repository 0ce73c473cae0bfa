-- Polynomials between words, and products of polynomials.
use Rattle.std.specs.Prelude.{ℕ, pos, List, [], ◌∷◌, Result, Ok, Err}
use Rattle.definitions.specs.Poly.{Term, poly_between}
use Rattle.nc_polynomial.specs.declared.fault.PolyFault.{PolyFault}
use Rattle.nc_polynomial.specs.Faults.{sized}
use Rattle.nc_polynomial.specs.Arithmetic.{combined}

-- l p r; coefficients stay as they are, and only the size can be too large
abbrev pub moved_result : List ℕ → List Term → List ℕ → Result (List Term) PolyFault
moved_result l p r = sized (poly_between l p r)

-- the next result, of a value, or the fault
abbrev pub and_then : Result (List Term) PolyFault → (List Term → Result (List Term) PolyFault) → Result (List Term) PolyFault
and_then (Ok p) next = next p
and_then (Err fault) next = Err fault

-- the sum so far and the term's multiple of the right factor q: 1 sum + c moved, where moved is w q
abbrev pub product_step : List Term → Term → List Term → Result (List Term) PolyFault
product_step sum t q = and_then (moved_result t.1 q []) (λ moved. combined (pos 1) sum t.0 moved)

-- the sum so far and the multiples of the terms of p, one by one
abbrev pub product_from : List Term → List Term → List Term → Result (List Term) PolyFault
product_from sum [] q = Ok sum
product_from sum (t ∷ p) q = and_then (product_step sum t q) (λ next. product_from next p q)

-- p q
abbrev pub product_result : List Term → List Term → Result (List Term) PolyFault
product_result p q = product_from [] p q
