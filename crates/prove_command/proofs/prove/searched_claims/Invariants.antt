use Rattle.prove_command.proofs.Prelude.{◌≡◌, take, halted_from}
use Rattle.prove_command.proofs.prove.searched_claims.Given as goal

-- the numbers of the first claims that halted
abbrev pub invariant-loop-place : goal.invariant-loop-place
invariant-loop-place l = l.claims.items ≡ halted_from 1 (take l.place l.outcomes)
