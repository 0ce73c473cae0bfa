use Rattle.nc_polynomial.proofs.Prelude.{◌≡◌, [], ◌∷◌, take, drop, product_from, IsCanonical}
use Rattle.nc_polynomial.proofs.OneTerm.{times_term}
use Rattle.nc_polynomial.proofs.product.from_right.Given as goal

abbrev pub invariant-loop-factor : goal.invariant-loop-factor
invariant-loop-factor l = record {
  made : l.terms ≡ times_term l.term (take l.factor-index l.left.terms);
  rest : product_from l.terms (drop l.factor-index l.left.terms) (l.term ∷ []) ≡ product_from [] l.left.terms (l.term ∷ []);
  canonical : IsCanonical l.terms;
}
