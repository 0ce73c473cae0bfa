use Rattle.nc_polynomial.proofs.Prelude.{◌≡◌, ◌≤◌, length, drop, numbers_of, reversed_star}
use Rattle.nc_polynomial.proofs.adjoint.adjoint_word.Given as goal

abbrev pub invariant-loop-place : goal.invariant-loop-place
invariant-loop-place l = record {
  within : l.place ≤ length l.word;
  done : l.adjoint ≡ reversed_star (numbers_of l.stars) (drop l.place l.word);
}

abbrev pub decreases-loop-place : goal.decreases-loop-place
decreases-loop-place l = l.place
