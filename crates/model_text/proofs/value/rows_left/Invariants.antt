use Rattle.model_text.proofs.Prelude.{◌≡◌, ◌≤◌, ◌+◌, ℕ, List, Option, Some, None, Bor, length, rows_behind, line_in}
use Rattle.model_text.proofs.value.rows_left.Given as goal

abbrev size : Option (Bor (List ℕ)) → ℕ
size None = 0
size (Some line) = length line.now + 1

-- the rows so far and those that are left
abbrev pub invariant-loop-left : goal.invariant-loop-left
invariant-loop-left l = record {
  same : l.count + length (rows_behind (line_in l.left)) ≡ length (rows_behind (line_in l.rest));
  within : l.count + size l.left ≤ size l.rest;
}

abbrev pub decreases-loop-left : goal.decreases-loop-left
decreases-loop-left l = size l.left
