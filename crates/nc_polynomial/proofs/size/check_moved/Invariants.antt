use Rattle.nc_polynomial.proofs.Prelude.{◌≡◌, drop, poly_between, has_long_word}
use Rattle.nc_polynomial.proofs.size.check_moved.Given as goal

-- no word that was passed becomes too long
abbrev pub invariant-loop-term : goal.invariant-loop-term
invariant-loop-term l = has_long_word (poly_between l.left l.terms l.right) ≡ has_long_word (poly_between l.left (drop l.term-index l.terms) l.right)
