use Rattle.rule_index.proofs.Prelude.{IsGrowing}
use Rattle.rule_index.proofs.insertion.grow_all.Given as goal

abbrev pub invariant-loop-index : goal.invariant-loop-index
invariant-loop-index l = IsGrowing l.fn.tree l.tree l.word l.index l.at l.ends.items
