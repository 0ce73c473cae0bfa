use Rattle.statement_names.proofs.Prelude.{◌≡◌, drop, kinded, with_kinds}
use Rattle.statement_names.proofs.kinds.put_names.Given as goal

abbrev pub invariant-loop-name : goal.invariant-loop-name
invariant-loop-name l = with_kinds l.kinds (kinded l.kind (drop l.name-index l.names)) ≡ with_kinds l.initial.kinds (kinded l.kind l.names)
