use Rattle.rule_index.proofs.Prelude.{◌≡◌, ◌<◌, [], ◌∷◌, ◌++◌, length, word_at, longest, words_of}
use Rattle.rule_index.proofs.tree.step.Given as goal

-- the longest suffix is that from here
abbrev pub invariant-up : goal.invariant-up
invariant-up l = record {
  inside : l.at < length l.nodes;
  same : longest (words_of l.nodes) (word_at (words_of l.nodes) l.at ++ l.letter ∷ []) ≡ longest (words_of l.nodes) (word_at (words_of l.nodes) l.from ++ l.letter ∷ []);
}

abbrev pub decreases-up : goal.decreases-up
decreases-up l = length (word_at (words_of l.nodes) l.at)
