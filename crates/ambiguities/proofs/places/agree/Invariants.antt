use Rattle.ambiguities.proofs.Prelude.{◌≡◌, ℕ, ◌+◌, ◌<◌, get_or}
use Rattle.ambiguities.proofs.places.agree.Given as goal

-- the letters that were passed are the same
abbrev pub invariant-loop-index : goal.invariant-loop-index
invariant-loop-index l = (k : ℕ) → k < l.index → get_or l.word (l.place + k) 0 ≡ get_or l.other k 0
