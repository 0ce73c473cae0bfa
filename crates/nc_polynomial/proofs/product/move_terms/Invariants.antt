use Rattle.nc_polynomial.proofs.Prelude.{◌≡◌, take, poly_between}
use Rattle.nc_polynomial.proofs.product.move_terms.Given as goal

abbrev pub invariant-loop-term : goal.invariant-loop-term
invariant-loop-term l = l.moved ≡ poly_between l.left (take l.term-index l.terms) l.right
