use Rattle.model_candidates.proofs.Prelude.{◌≡◌, ℕ, ◌<◌, entry_at, side_in, value_in}
use Rattle.model_candidates.proofs.value_rows.is_zero.Given as goal

-- the rows that were passed are zero
abbrev pub invariant-loop-row : goal.invariant-loop-row
invariant-loop-row l =
    (i k : ℕ) → i < l.row → k < side_in l.given.shape.now l.fn.ends.source.0
    → entry_at (value_in l.given l.fn.ends.source.0 l.fn.ends.target.0 l.poly.terms) i k ≡ 0
