use Rattle.nc_polynomial.proofs.Prelude.{◌≡◌, drop, has_long_word}
use Rattle.nc_polynomial.proofs.size.has_long_word.Given as goal

abbrev pub invariant-loop-term : goal.invariant-loop-term
invariant-loop-term l = has_long_word l.terms ≡ has_long_word (drop l.term-index l.terms)
