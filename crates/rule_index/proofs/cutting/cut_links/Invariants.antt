use Rattle.rule_index.proofs.Prelude.{◌≡◌, ℕ, ◌<◌, ◌≤◌, length, get_or, words_of, IsKept}
use Rattle.rule_index.proofs.cutting.cut_links.Given as goal

-- the links so far are as they should be, and the others as they were
abbrev pub invariant-loop-node : goal.invariant-loop-node
invariant-loop-node l = record {
  nodes : l.tree.nodes ≡ l.initial.tree.nodes;
  heads : l.tree.heads ≡ l.initial.tree.heads;
  nexts : l.tree.nexts ≡ l.initial.tree.nexts;
  letter_heads : l.tree.letter_heads ≡ l.initial.tree.letter_heads;
  letter_nexts : l.tree.letter_nexts ≡ l.initial.tree.letter_nexts;
  leasts : l.tree.leasts ≡ l.initial.tree.leasts;
  len : length l.tree.links.items ≡ length l.initial.tree.links.items;
  inside : (k : ℕ) → get_or l.tree.links.items k 0 < length l.initial.tree.nodes.items;
  rest : (k : ℕ) → l.node ≤ k → get_or l.tree.links.items k 0 ≡ get_or l.initial.tree.links.items k 0;
  each : (k : ℕ) → k < l.node → IsKept (words_of l.initial.tree.nodes.items) l.size (get_or l.initial.tree.links.items k 0) (get_or l.tree.links.items k 0);
}
