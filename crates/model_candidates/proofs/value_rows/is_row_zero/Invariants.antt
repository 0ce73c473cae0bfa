use Rattle.model_candidates.proofs.Prelude.{◌≡◌, ℕ, ◌<◌, entry_at, value_in}
use Rattle.model_candidates.proofs.value_rows.is_row_zero.Given as goal

-- the entries that were passed are zero
abbrev pub invariant-loop-column : goal.invariant-loop-column
invariant-loop-column l =
    (k : ℕ) → k < l.column → entry_at (value_in l.given l.fn.ends.source.0 l.fn.ends.target.0 l.poly.terms) l.fn.row k ≡ 0
