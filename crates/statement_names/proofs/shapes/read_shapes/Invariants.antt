use Rattle.statement_names.proofs.Prelude.{◌≡◌, take, flat_map, shapes_in}
use Rattle.statement_names.proofs.shapes.read_shapes.Given as goal

abbrev pub invariant-loop-statement : goal.invariant-loop-statement
invariant-loop-statement l = l.shapes ≡ flat_map (λ s. shapes_in l.quiver s.kind) (take l.statement-index l.statements)
