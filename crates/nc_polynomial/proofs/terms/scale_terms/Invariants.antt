use Rattle.nc_polynomial.proofs.Prelude.{◌≡◌, drop}
use Rattle.nc_polynomial.proofs.Checked.{join, scale_from}
use Rattle.nc_polynomial.proofs.terms.scale_terms.Given as goal

abbrev pub invariant-loop-term : goal.invariant-loop-term
invariant-loop-term l = join l.scaled (scale_from l.by (drop l.term-index l.terms)) ≡ scale_from l.by l.terms
