use Rattle.nc_polynomial.proofs.Prelude.{◌≡◌, length, All, into_iter_items, into_iter_len, IsCoefficient}
use Rattle.nc_polynomial.proofs.Checked.{join, multiply_from}
use Rattle.nc_polynomial.proofs.terms.multiply_terms.Given as goal

abbrev pub invariant-loop-coefficient : goal.invariant-loop-coefficient
invariant-loop-coefficient l = record {
  left : into_iter_len l.coefficient-iterator ≡ length (into_iter_items l.coefficient-iterator);
  terms_in : All (λ t. IsCoefficient t.0) (into_iter_items l.coefficient-iterator);
  same : join l.multiplied (multiply_from (into_iter_items l.coefficient-iterator) l.by) ≡ multiply_from l.fn.terms l.by;
}
