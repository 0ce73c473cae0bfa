use Rattle.model_candidates.proofs.Prelude.{◌≡◌, ℕ, ◌+◌, ◌*◌, ◌%◌, ◌<◌, length, get_or, All, total, place_factor}
use Rattle.model_candidates.proofs.factor_rows.add_products.Given as goal

-- with what the rows that were passed add
abbrev pub invariant-loop-inner : goal.invariant-loop-inner
invariant-loop-inner l = record {
  size : length l.factors ≡ length l.initial.factors;
  below : All (λ factor. factor < l.fn.modulus) l.factors;
  each : (k : ℕ) → k < length l.initial.factors → get_or l.factors k 0 % l.fn.modulus
      ≡ (get_or l.initial.factors k 0 + l.term.coefficient * total (l.inner * l.term.right.rows) (place_factor l.term l.fn.row l.fn.column k)) % l.fn.modulus;
}
