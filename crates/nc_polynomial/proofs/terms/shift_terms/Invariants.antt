use Rattle.nc_polynomial.proofs.Prelude.{◌≡◌, drop}
use Rattle.nc_polynomial.proofs.Checked.{join, shift_from}
use Rattle.nc_polynomial.proofs.terms.shift_terms.Given as goal

abbrev pub invariant-loop-term : goal.invariant-loop-term
invariant-loop-term l = join l.shifted (shift_from l.by l.left (drop l.term-index l.terms) l.right) ≡ shift_from l.by l.left l.terms l.right
