use Rattle.statement_names.proofs.Prelude.{◌≡◌, [], drop, flat_map, kinds_by, with_kinds}
use Rattle.statement_names.proofs.kinds.kinds_of.Given as goal

abbrev pub invariant-loop-statement : goal.invariant-loop-statement
invariant-loop-statement l =
    with_kinds l.kinds (flat_map (λ s. kinds_by s.kind) (drop l.statement-index l.statements)) ≡ with_kinds [] (flat_map (λ s. kinds_by s.kind) l.statements)
