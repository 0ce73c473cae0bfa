use Rattle.statement_names.proofs.Prelude.{◌≡◌, take, declared_objects}
use Rattle.statement_names.proofs.FileDeclared.{quiver_before}
use Rattle.statement_names.proofs.declarations.declare_all.Given as goal

abbrev pub invariant-loop-statement : goal.invariant-loop-statement
invariant-loop-statement l = l.quiver ≡ declared_objects (take l.statement-index l.statements)

abbrev pub invariant-loop-statement-2 : goal.invariant-loop-statement-2
invariant-loop-statement-2 l = l.quiver ≡ quiver_before l.statements l.statement-index
