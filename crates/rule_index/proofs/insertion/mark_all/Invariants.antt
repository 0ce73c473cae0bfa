use Rattle.rule_index.proofs.Prelude.{ℕ, ◌<◌, length, get_or, None, IsMarkedAt}
use Rattle.rule_index.proofs.insertion.mark_all.Given as goal

abbrev pub invariant-loop-end : goal.invariant-loop-end
invariant-loop-end l = (k : ℕ) → k < length l.leasts → IsMarkedAt l.ends l.end-index l.place (get_or l.initial.leasts k None) (get_or l.leasts k None) k
