use Rattle.statement_names.proofs.Prelude.{take, list_any, writes_identity, all_equations, Marks}
use Rattle.statement_names.proofs.marked.mark_statements.Given as goal

abbrev pub invariant-loop-statement : goal.invariant-loop-statement
invariant-loop-statement l = Marks l.initial.marks l.marks (λ v. list_any (writes_identity l.quiver v) (all_equations l.quiver (take l.statement-index l.statements)))
