use Rattle.block_text.proofs.Prelude.{◌≡◌, ◌+◌, ℕ, Option, Some, None, length, list_all, TermText, terms_from, terms_left, passes}
use Rattle.block_text.proofs.polynomial.all_pass.Given as goal

-- the terms so far pass
abbrev pub invariant-loop-left : goal.invariant-loop-left
invariant-loop-left l = list_all (passes l.quiver l.asked) (terms_left l.left) ≡ list_all (passes l.quiver l.asked) (terms_from l.first)

abbrev size : Option TermText → ℕ
size None = 0
size (Some t) = length t.letters.now + 1

abbrev pub decreases-loop-left : goal.decreases-loop-left
decreases-loop-left l = size l.left
