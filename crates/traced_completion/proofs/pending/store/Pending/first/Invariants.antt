use Rattle.traced_completion.proofs.Prelude.{◌≡◌, take, ambiguities_of}
use Rattle.traced_completion.proofs.pending.store.Pending.first.Given as goal

-- the ones that were passed
abbrev pub invariant-loop-place : goal.invariant-loop-place
invariant-loop-place l = record { passed : l.first.items ≡ ambiguities_of (take l.place l.self) }
