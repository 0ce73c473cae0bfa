use Rattle.model_candidates.proofs.Prelude.{◌≡◌, ◌++◌, get_or, map, range_with_len}
use Rattle.model_candidates.proofs.value_matrices.push_row.Given as goal

-- with the numbers of the columns that were passed
abbrev pub invariant-loop-column : goal.invariant-loop-column
invariant-loop-column l = l.entries.items ≡ l.initial.entries.items ++ map (λ k. get_or l.row k 0) (range_with_len 0 l.column)
