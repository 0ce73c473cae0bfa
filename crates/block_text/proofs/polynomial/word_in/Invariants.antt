use Rattle.block_text.proofs.Prelude.{◌≡◌, ◌≤◌, [], length, part_in, later_in, word_behind, tokens_of}
use Rattle.block_text.proofs.polynomial.word_in.Given as goal

-- what the letters that are left make of the word
abbrev pub invariant-loop-token : goal.invariant-loop-token
invariant-loop-token l = record {
  word : word_behind l.quiver l.word (part_in (tokens_of l.rest)) ≡ word_behind l.quiver [] (part_in (tokens_of l.letters));
  later : later_in (tokens_of l.letters) ≡ later_in (tokens_of l.rest);
  within : length l.rest ≤ length l.letters;
}

abbrev pub decreases-loop-token : goal.decreases-loop-token
decreases-loop-token l = length l.rest
