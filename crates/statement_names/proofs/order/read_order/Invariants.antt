use Rattle.statement_names.proofs.Prelude.{◌≡◌, drop, order_of}
use Rattle.statement_names.proofs.order.read_order.Given as goal

abbrev pub invariant-loop-statement : goal.invariant-loop-statement
invariant-loop-statement l = order_of l.quiver (drop l.statement-index l.statements) ≡ order_of l.quiver l.statements
