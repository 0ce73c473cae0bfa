use Rattle.nc_polynomial.proofs.Prelude.{◌≡◌, drop, first_overflow, products}
use Rattle.nc_polynomial.proofs.multiples.kept_terms.Given as goal

abbrev pub invariant-loop-term : goal.invariant-loop-term
invariant-loop-term l = first_overflow (products l.by (drop l.term-index l.terms)) ≡ first_overflow (products l.by l.terms)
