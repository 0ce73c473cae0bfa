use Rattle.rule_index.proofs.Prelude.{◌≡◌, ℕ, List, take, IsLongest, IsMarked, words_of, first_of, occurs}
use Rattle.rule_index.proofs.tree.first_in.Given as goal

-- the node of the longest suffix so far, and the first word so far
abbrev pub invariant-loop-place : goal.invariant-loop-place
invariant-loop-place l = record {
  longest : IsLongest l.tree.nodes.items (take l.place l.word) l.at;
  first : (entries : List (List ℕ × ℕ)) → IsMarked entries (words_of l.tree.nodes.items) l.tree.leasts.items → l.found ≡ first_of (occurs (take l.place l.word)) entries;
}
