use Rattle.rule_index.proofs.Prelude.{◌≡◌, ◌<◌, length, take, word_at, longest, words_of}
use Rattle.rule_index.proofs.cutting.kept.Given as goal

-- the longest suffix among the first words is that from here
abbrev pub invariant-loop-at : goal.invariant-loop-at
invariant-loop-at l = record {
  inside : l.at < length l.tree.nodes.items;
  same : longest (take l.size (words_of l.tree.nodes.items)) (word_at (words_of l.tree.nodes.items) l.at) ≡ longest (take l.size (words_of l.tree.nodes.items)) (word_at (words_of l.tree.nodes.items) l.from);
}

abbrev pub decreases-loop-at : goal.decreases-loop-at
decreases-loop-at l = length (word_at (words_of l.tree.nodes.items) l.at)
