use Rattle.statement_names.proofs.Prelude.{◌≡◌, take, flat_map, letters_for}
use Rattle.statement_names.proofs.order.block_of.Given as goal

abbrev pub invariant-loop-name : goal.invariant-loop-name
invariant-loop-name l = l.block ≡ flat_map (letters_for l.quiver) (take l.name-index l.names)
