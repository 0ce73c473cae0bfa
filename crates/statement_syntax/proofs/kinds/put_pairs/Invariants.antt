use Rattle.statement_syntax.proofs.Prelude.{◌≡◌, ◌++◌, take, flat_map, pair_kinds}
use Rattle.statement_syntax.proofs.kinds.put_pairs.Given as goal

abbrev pub invariant-loop-pair : goal.invariant-loop-pair
invariant-loop-pair l = l.out ≡ l.initial.out ++ flat_map pair_kinds (take l.pair-index l.pair-items)
