use Rattle.block_text.proofs.Prelude.{◌≡◌, length, Equal, part_in, words_cmp, tokens_of}
use Rattle.block_text.proofs.polynomial.words_cmp.Given as goal

-- what the letters that are left make of the order
abbrev pub invariant-loop-x : goal.invariant-loop-x
invariant-loop-x l =
    words_cmp l.quiver l.order (part_in (tokens_of l.left_rest)) (part_in (tokens_of l.right_rest)) ≡ words_cmp l.quiver Equal (part_in (tokens_of l.left)) (part_in (tokens_of l.right))

abbrev pub decreases-loop-x : goal.decreases-loop-x
decreases-loop-x l = length l.left_rest
