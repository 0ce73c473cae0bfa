use Rattle.model_candidates.proofs.Prelude.{◌≡◌, ◌<◌, ◌≤◌, ℕ, get_or, length, shape_side_limit, value_in_table}
use Rattle.model_candidates.proofs.word_rows.table_row.Given as goal

-- the values in the columns that were passed, and zeros behind them
abbrev pub invariant-loop-column : goal.invariant-loop-column
invariant-loop-column l = record {
  size : length l.entries ≡ shape_side_limit;
  each : (k : ℕ) → k < l.column → get_or l.entries k 0 ≡ value_in_table l.values l.table l.fn.row k;
  rest : (k : ℕ) → l.column ≤ k → get_or l.entries k 0 ≡ 0;
}
