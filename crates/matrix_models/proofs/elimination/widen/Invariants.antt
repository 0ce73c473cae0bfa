use Rattle.matrix_models.proofs.Prelude.{◌≡◌, ℕ, ◌<◌, length, get_or}
use Rattle.matrix_models.proofs.elimination.widen.Given as goal

-- the numbers before the place are copied
abbrev pub invariant-loop-place : goal.invariant-loop-place
invariant-loop-place l = record {
  size : length l.wide ≡ length l.row;
  done : (k : ℕ) → k < l.place → get_or l.wide k 0 ≡ get_or l.row k 0;
}
