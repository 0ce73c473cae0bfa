use Rattle.rule_index.proofs.Prelude.{◌≡◌, ℕ, ◌<◌, ◌≤◌, length, IsChild, bucket_of, bucket_at}
use Rattle.rule_index.proofs.chains.child.Given as goal

-- no child by the letter comes after the node
abbrev pub invariant-loop-node : goal.invariant-loop-node
invariant-loop-node l = record {
  inside : l.node < length l.nodes;
  bucket : 0 < l.node → bucket_at l.nodes (length l.heads) l.node ≡ bucket_of (length l.heads) l.at l.letter;
  rest : (k : ℕ) → IsChild l.nodes l.at l.letter k → k ≤ l.node;
}

abbrev pub decreases-loop-node : goal.decreases-loop-node
decreases-loop-node l = l.node
