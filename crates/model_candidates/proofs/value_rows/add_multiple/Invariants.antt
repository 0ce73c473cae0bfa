use Rattle.model_candidates.proofs.Prelude.{◌≡◌, ℕ, ◌+◌, ◌*◌, ◌%◌, ◌<◌, ◌≤◌, length, get_or, All, shape_side_limit}
use Rattle.model_candidates.proofs.value_rows.add_multiple.Given as goal

-- the sums in the columns that were passed have the multiple, and the others are as they were
abbrev pub invariant-loop-column : goal.invariant-loop-column
invariant-loop-column l = record {
  size : length l.sums ≡ shape_side_limit;
  below : All (λ sum. sum < l.fn.modulus * l.fn.modulus) l.sums;
  passed : (k : ℕ) → k < l.column → get_or l.sums k 0 % l.fn.modulus ≡ (get_or l.initial.sums k 0 + l.fn.times * get_or l.row k 0) % l.fn.modulus;
  others : (k : ℕ) → l.column ≤ k → get_or l.sums k 0 ≡ get_or l.initial.sums k 0;
}
