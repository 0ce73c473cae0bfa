use Rattle.matrix_models.proofs.Prelude.{◌≡◌, ℕ, ◌*◌, ◌%◌, ◌<◌, ◌≤◌, length, get_or}
use Rattle.matrix_models.proofs.elimination.scale.Given as goal

-- the entries before the place are multiplied, and the others are as they were
abbrev pub invariant-loop-place : goal.invariant-loop-place
invariant-loop-place l = record {
  size : length l.row ≡ length l.initial.row;
  done : (k : ℕ) → k < l.place → get_or l.row k 0 ≡ (get_or l.wide k 0 * l.times) % l.modulus;
  rest : (k : ℕ) → l.place ≤ k → get_or l.row k 0 ≡ get_or l.initial.row k 0;
}
