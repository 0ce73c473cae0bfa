use Rattle.statement_syntax.proofs.Prelude.{◌≡◌, ◌++◌, take, flat_map, name_kinds}
use Rattle.statement_syntax.proofs.kinds.put_list.Given as goal

abbrev pub invariant-loop-name : goal.invariant-loop-name
invariant-loop-name l = l.out ≡ l.initial.out ++ flat_map name_kinds (take l.name-index l.name-items)
