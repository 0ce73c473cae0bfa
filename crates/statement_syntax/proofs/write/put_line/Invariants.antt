use Rattle.statement_syntax.proofs.Prelude.{◌≡◌, ◌++◌, true, drop, text_from}
use Rattle.statement_syntax.proofs.write.put_line.Given as goal

abbrev pub invariant-loop-kind : goal.invariant-loop-kind
invariant-loop-kind l = l.text.items ++ text_from l.glued (drop l.kind-index l.kinds) ≡ l.initial.text.items ++ text_from true l.kinds
