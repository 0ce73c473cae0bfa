use Rattle.block_text.proofs.Prelude.{◌≡◌, ◌+◌, [], ℕ, Option, Some, None, length, TermText, terms_from, terms_left, poly_behind}
use Rattle.block_text.proofs.polynomial.terms_in.Given as goal

-- what the terms that are left make of the polynomial
abbrev pub invariant-loop-left : goal.invariant-loop-left
invariant-loop-left l = poly_behind l.quiver l.terms (terms_left l.left) ≡ poly_behind l.quiver [] (terms_from l.first)

abbrev size : Option TermText → ℕ
size None = 0
size (Some t) = length t.letters.now + 1

abbrev pub decreases-loop-left : goal.decreases-loop-left
decreases-loop-left l = size l.left
