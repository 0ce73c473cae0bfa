use Rattle.nc_polynomial.proofs.Prelude.{◌≡◌, [], drop, product_from, IsCanonical}
use Rattle.nc_polynomial.proofs.product.from_both.Given as goal

abbrev pub invariant-loop-term : goal.invariant-loop-term
invariant-loop-term l = record {
  rest : product_from l.sum (drop l.term-index l.left.terms) l.right.terms ≡ product_from [] l.left.terms l.right.terms;
  canonical : IsCanonical l.sum;
}
