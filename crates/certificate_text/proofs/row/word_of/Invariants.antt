use Rattle.certificate_text.proofs.Prelude.{◌≡◌, length, list_all, is_letter, word_of, tokens_of, behind}
use Rattle.certificate_text.proofs.row.word_of.Given as goal

-- the letters so far, before those that are left
abbrev pub invariant-loop-token : goal.invariant-loop-token
invariant-loop-token l = record {
  word : behind l.word (word_of l.quiver (tokens_of l.rest)) ≡ word_of l.quiver (tokens_of l.letters);
  letters : list_all is_letter (tokens_of l.rest) ≡ list_all is_letter (tokens_of l.letters);
}

abbrev pub decreases-loop-token : goal.decreases-loop-token
decreases-loop-token l = length l.rest
