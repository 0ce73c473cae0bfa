use Rattle.closed_checker.proofs.Prelude.{◌≡◌, take}
use Rattle.closed_checker.proofs.table.letters_of.Given as goal

-- the letters that were passed
abbrev pub invariant-loop-place : goal.invariant-loop-place
invariant-loop-place l = l.letters ≡ take l.place l.word
