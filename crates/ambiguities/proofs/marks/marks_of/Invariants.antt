use Rattle.ambiguities.proofs.Prelude.{◌≡◌, ℕ, ◌<◌, true, length, get_or, is_marked}
use Rattle.ambiguities.proofs.marks.marks_of.Given as goal

-- the letters that were passed are marked
abbrev pub invariant-loop-place : goal.invariant-loop-place
invariant-loop-place l = record {
  sized : length l.marks ≡ 64;
  marked : (k : ℕ) → k < l.place → is_marked l.marks (get_or l.word k 0) ≡ true;
}
