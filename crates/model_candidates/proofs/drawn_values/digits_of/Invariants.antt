use Rattle.model_candidates.proofs.Prelude.{◌≡◌, ◌/◌, ◌^◌, map, range_with_len, digit}
use Rattle.model_candidates.proofs.drawn_values.digits_of.Given as goal

-- the digits of the entries that were passed, and what is left of the number
abbrev pub invariant-loop-place : goal.invariant-loop-place
invariant-loop-place l = (l.values ≡ map (digit l.fn.modulus l.fn.candidate) (range_with_len 0 l.place)) × (l.rest ≡ l.fn.candidate / l.fn.modulus ^ l.place)
