use Rattle.model_text.proofs.Prelude.{◌≡◌, ◌+◌, ◌∷◌, ℕ, List, Option, Some, None, Bor, length, tokens_of, rows_behind, values_in, line_in}
use Rattle.model_text.proofs.Values.{HaveNumbers}
use Rattle.model_text.proofs.value.with_rows.Given as goal

-- the values of the rows so far, before those that are left
abbrev pub invariant-loop-left : goal.invariant-loop-left
invariant-loop-left l = record {
  same : values_in l.modulus l.more.items (rows_behind (line_in l.left)) ≡ values_in l.modulus l.fn.values.items (tokens_of l.first ∷ rows_behind (line_in l.rest));
  numbers : HaveNumbers (rows_behind (line_in l.left));
}

abbrev size : Option (Bor (List ℕ)) → ℕ
size None = 0
size (Some line) = length line.now + 1

abbrev pub decreases-loop-left : goal.decreases-loop-left
decreases-loop-left l = size l.left
