use Rattle.ambiguities.proofs.Prelude.{◌≡◌, ◌++◌, take}
use Rattle.ambiguities.proofs.overlap.push_first.Given as goal

-- the letters so far were appended to the word
abbrev pub invariant-loop-place : goal.invariant-loop-place
invariant-loop-place l = l.word ≡ l.fn.word ++ take l.place l.other
