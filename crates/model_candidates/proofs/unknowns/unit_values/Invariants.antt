use Rattle.model_candidates.proofs.Prelude.{◌≡◌, cond, nat_eq, map, range_with_len}
use Rattle.model_candidates.proofs.unknowns.unit_values.Given as goal

-- the values before the place
abbrev pub invariant-loop-k : goal.invariant-loop-k
invariant-loop-k l = l.values ≡ map (λ j. cond (nat_eq j l.place) 1 0) (range_with_len 0 l.k)
