use Rattle.nc_polynomial.proofs.Prelude.{◌≡◌, take, poly_multiple}
use Rattle.nc_polynomial.proofs.poly.Poly.divide.Given as goal

abbrev pub invariant-loop-term : goal.invariant-loop-term
invariant-loop-term l = poly_multiple l.by l.quotients ≡ take l.term-index l.self.terms
