use Rattle.statement_names.proofs.Prelude.{◌≡◌, ◌++◌, map, drop, object}
use Rattle.statement_names.proofs.declarations.add_objects.Given as goal

abbrev pub invariant-loop-name : goal.invariant-loop-name
invariant-loop-name l = l.quiver ++ map (λ n. object n.text) (drop l.name-index l.name-items) ≡ l.initial.quiver ++ map (λ n. object n.text) l.name-items
