use Rattle.block_text.proofs.Prelude.{◌≡◌, length, list_all, part_in, passes_letter, tokens_of}
use Rattle.block_text.proofs.polynomial.pass_letters.Given as goal

-- the letters so far pass
abbrev pub invariant-loop-token : goal.invariant-loop-token
invariant-loop-token l =
    list_all (passes_letter l.quiver l.asked) (part_in (tokens_of l.rest)) ≡ list_all (passes_letter l.quiver l.asked) (part_in (tokens_of l.letters))

abbrev pub decreases-loop-token : goal.decreases-loop-token
decreases-loop-token l = length l.rest
