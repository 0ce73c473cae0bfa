use Rattle.library_tests.proofs.Prelude.{ℕ, ◌<◌, get_or}
use Rattle.library_tests.proofs.letters.is_over.Given as goal

-- the letters that were read are below the number
abbrev pub invariant-loop-place : goal.invariant-loop-place
invariant-loop-place l = (k d : ℕ) → k < l.place → get_or l.word k d < l.letters
