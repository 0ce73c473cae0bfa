use Rattle.nc_polynomial.proofs.Prelude.{take, IsCoefficient, IsContent}
use Rattle.nc_polynomial.proofs.poly.Poly.content.Given as goal

-- the divisor is that of the terms that were passed
abbrev pub invariant-loop-term : goal.invariant-loop-term
invariant-loop-term l = record {
  content : IsContent (take l.term-index l.self.terms) l.divisor;
  in_range : IsCoefficient l.divisor;
}
