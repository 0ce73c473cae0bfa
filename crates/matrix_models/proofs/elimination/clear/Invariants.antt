use Rattle.matrix_models.proofs.Prelude.{◌≡◌, length, HasNoFactor}
use Rattle.matrix_models.proofs.elimination.clear.Given as goal

-- the numbers before the place are 0
abbrev pub invariant-loop-place : goal.invariant-loop-place
invariant-loop-place l = record {
  size : length l.row ≡ length l.initial.row;
  none : HasNoFactor l.place l.row;
}
