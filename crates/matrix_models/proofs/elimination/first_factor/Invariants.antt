use Rattle.matrix_models.proofs.Prelude.{◌-◌, ◌≤◌, length, HasNoFactor}
use Rattle.matrix_models.proofs.elimination.first_factor.Given as goal

-- the numbers that were passed are 0
abbrev pub invariant-loop-place : goal.invariant-loop-place
invariant-loop-place l = record {
  within : l.place ≤ length l.row;
  none : HasNoFactor l.place l.row;
}

abbrev pub decreases-loop-place : goal.decreases-loop-place
decreases-loop-place l = length l.row - l.place

abbrev pub invariant-loop-place-2 : goal.invariant-loop-place-2
invariant-loop-place-2 l = record {
  within : l.place ≤ length l.row;
  none : HasNoFactor l.place l.row;
}

abbrev pub decreases-loop-place-2 : goal.decreases-loop-place-2
decreases-loop-place-2 l = length l.row - l.place
