use Rattle.rule_index.proofs.Advancing.{IsAdvancing}
use Rattle.rule_index.proofs.insertion.advance.Given as goal

abbrev pub invariant-loop-place : goal.invariant-loop-place
invariant-loop-place l = IsAdvancing l.nodes l.letter l.initial.ends.items l.ends.items l.place l.kept
