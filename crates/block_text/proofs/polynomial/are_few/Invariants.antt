use Rattle.block_text.proofs.Prelude.{◌≡◌, ◌+◌, ℕ, Option, Some, None, length, term_limit, TermText, terms_from, terms_left, at_most}
use Rattle.block_text.proofs.polynomial.are_few.Given as goal

-- the terms that are left find the room that is left
abbrev pub invariant-loop-left : goal.invariant-loop-left
invariant-loop-left l = at_most l.room (terms_left l.left) ≡ at_most term_limit (terms_from l.first)

abbrev size : Option TermText → ℕ
size None = 0
size (Some t) = length t.letters.now + 1

abbrev pub decreases-loop-left : goal.decreases-loop-left
decreases-loop-left l = size l.left
