use Rattle.statement_names.proofs.Prelude.{◌≡◌, ◌++◌, map, take, arrow}
use Rattle.statement_names.proofs.declarations.add_maps.Given as goal

abbrev pub invariant-loop-name : goal.invariant-loop-name
invariant-loop-name l = l.quiver ≡ l.initial.quiver ++ map (λ n. arrow n.text l.source.0 l.target.0 l.selfmade) (take l.name-index l.name-items)
