use Rattle.block_text.proofs.Prelude.{◌≡◌, length, term_in, later_in, descend_behind, tokens_of}
use Rattle.block_text.proofs.polynomial.descend.Given as goal

-- the words so far descend
abbrev pub invariant-loop-lower : goal.invariant-loop-lower
invariant-loop-lower l =
    descend_behind l.quiver (term_in l.upper) (later_in (tokens_of l.upper.letters.now)) ≡ descend_behind l.quiver (term_in l.first) (later_in (tokens_of l.first.letters.now))

abbrev pub decreases-loop-lower : goal.decreases-loop-lower
decreases-loop-lower l = length l.upper.letters.now
