use Rattle.model_candidates.proofs.Prelude.{◌≡◌, ℕ, ◌*◌, ◌%◌, ◌<◌, length, get_or, take, All, sum_by, shape_side_limit, term_entry}
use Rattle.model_candidates.proofs.constants.constant_sums.Given as goal

-- what the terms that were passed add
abbrev pub invariant-loop-place : goal.invariant-loop-place
invariant-loop-place l = record {
  size : length l.sums ≡ shape_side_limit;
  below : All (λ sum. sum < l.modulus * l.modulus) l.sums;
  each : (k : ℕ) → k < l.columns → get_or l.sums k 0 % l.modulus
      ≡ sum_by (term_entry l.known.given l.fn.ends.source.0 l.fn.row k) (take l.place l.poly.terms) % l.modulus;
}
