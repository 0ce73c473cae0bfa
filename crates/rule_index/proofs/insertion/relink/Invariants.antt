use Rattle.rule_index.proofs.Prelude.{ℕ, ◌<◌, length, get_or, IsRelinked}
use Rattle.rule_index.proofs.insertion.relink.Given as goal

abbrev pub invariant-loop-end : goal.invariant-loop-end
invariant-loop-end l = record {
  inside : (k : ℕ) → get_or l.links k 0 < length l.nodes;
  each : (k : ℕ) → k < length l.links → IsRelinked l.nodes l.ends l.end-index l.node (get_or l.initial.links k 0) (get_or l.links k 0) k;
}
