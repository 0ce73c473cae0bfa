use Rattle.cofactor_checker.proofs.Prelude.{◌≡◌, take}
use Rattle.cofactor_checker.proofs.table.are_same.Given as goal

abbrev pub invariant-loop-place : goal.invariant-loop-place
invariant-loop-place l = take l.place l.word ≡ take l.place l.other
