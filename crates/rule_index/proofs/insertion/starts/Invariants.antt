use Rattle.rule_index.proofs.Prelude.{◌≡◌, ◌<◌, length, letter_bucket_of, node_at}
use Rattle.rule_index.proofs.Starting.{IsStartsAbove}
use Rattle.rule_index.proofs.insertion.starts.Given as goal

-- those above the node so far
abbrev pub invariant-loop-node : goal.invariant-loop-node
invariant-loop-node l = record {
  inside : l.node < length l.tree.nodes.items;
  bucket : 0 < l.node → letter_bucket_of (length l.tree.letter_heads.items) (node_at l.tree.nodes.items l.node).letter ≡ letter_bucket_of (length l.tree.letter_heads.items) l.letter;
  above : IsStartsAbove l.tree.nodes.items l.node l.letter l.starts.items;
}

abbrev pub decreases-loop-node : goal.decreases-loop-node
decreases-loop-node l = l.node
