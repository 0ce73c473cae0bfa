use Rattle.model_candidates.proofs.Prelude.{◌≡◌, ℕ, ◌+◌, ◌*◌, ◌%◌, ◌<◌, length, get_or, All, line_factor}
use Rattle.model_candidates.proofs.factor_rows.add_line.Given as goal

-- with what the places that were passed add
abbrev pub invariant-loop-other : goal.invariant-loop-other
invariant-loop-other l = record {
  size : length l.factors ≡ length l.initial.factors;
  below : All (λ factor. factor < l.modulus) l.factors;
  each : (k : ℕ) → k < length l.initial.factors → get_or l.factors k 0 % l.modulus
      ≡ (get_or l.initial.factors k 0 + l.term.coefficient * line_factor l.term l.fn.row l.fn.column k l.inner l.other) % l.modulus;
}
