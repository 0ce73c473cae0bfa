use Rattle.model_text.proofs.Prelude.{◌≡◌, ◌+◌, ℕ, List, Option, Some, None, Bor, length, list_all, is_row_of, rows_behind, line_in}
use Rattle.model_text.proofs.entry.are_rows.Given as goal

-- the rows so far have so many numbers
abbrev pub invariant-loop-left : goal.invariant-loop-left
invariant-loop-left l = list_all (is_row_of l.columns) (rows_behind (line_in l.left)) ≡ list_all (is_row_of l.columns) (rows_behind (line_in l.rest))

abbrev size : Option (Bor (List ℕ)) → ℕ
size None = 0
size (Some line) = length line.now + 1

abbrev pub decreases-loop-left : goal.decreases-loop-left
decreases-loop-left l = size l.left
