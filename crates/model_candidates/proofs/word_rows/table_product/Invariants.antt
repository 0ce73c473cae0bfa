use Rattle.model_candidates.proofs.Prelude.{◌≡◌, ◌*◌, ◌%◌, ◌<◌, ℕ, get_or, length, All, shape_side_limit, total, value_in_table}
use Rattle.model_candidates.proofs.word_rows.table_product.Given as goal

-- the entries in the columns that were passed
abbrev pub invariant-loop-column : goal.invariant-loop-column
invariant-loop-column l = record {
  size : length l.entries ≡ shape_side_limit;
  below : All (λ entry. entry < l.fn.modulus) l.entries;
  each : (k : ℕ) → k < l.column
      → get_or l.entries k 0 ≡ total l.table.rows (λ j. get_or l.row j 0 * value_in_table l.values l.table j k) % l.fn.modulus;
}
