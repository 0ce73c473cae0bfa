use Rattle.statement_syntax.proofs.Prelude.{◌≡◌, take, tree_text}
use Rattle.statement_syntax.proofs.write.write_tree.Given as goal

abbrev pub invariant-loop-statement : goal.invariant-loop-statement
invariant-loop-statement l = l.text.items ≡ tree_text (take l.statement-index l.statement-items)
