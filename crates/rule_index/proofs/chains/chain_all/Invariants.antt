use Rattle.rule_index.proofs.Prelude.{◌≤◌, length, IsChained}
use Rattle.rule_index.proofs.chains.chain_all.Given as goal

-- the nodes so far
abbrev pub invariant-loop-node : goal.invariant-loop-node
invariant-loop-node l = record {
  within : l.node ≤ length l.nodes;
  chained : IsChained l.nodes l.node l.heads l.nexts;
}
