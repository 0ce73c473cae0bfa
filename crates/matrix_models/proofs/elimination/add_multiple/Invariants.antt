use Rattle.matrix_models.proofs.Prelude.{◌≡◌, ℕ, ◌+◌, ◌*◌, ◌<◌, ◌≤◌, length, get_or}
use Rattle.matrix_models.proofs.elimination.add_multiple.Given as goal

-- the entries before the place are those of the sum, and the others are as they were
abbrev pub invariant-loop-place : goal.invariant-loop-place
invariant-loop-place l = record {
  size : length l.wide ≡ length l.initial.wide;
  done : (k : ℕ) → k < l.place → get_or l.wide k 0 ≡ get_or l.initial.wide k 0 + l.times * get_or l.other k 0;
  rest : (k : ℕ) → l.place ≤ k → get_or l.wide k 0 ≡ get_or l.initial.wide k 0;
}
