use Rattle.cofactor_checker.proofs.Prelude.{◌≡◌, take, digest}
use Rattle.cofactor_checker.proofs.table.digest.Given as goal

abbrev pub invariant-loop-place : goal.invariant-loop-place
invariant-loop-place l = l.digest ≡ digest (take l.place l.word)
