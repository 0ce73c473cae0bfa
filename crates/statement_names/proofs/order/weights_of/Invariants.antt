use Rattle.statement_names.proofs.Prelude.{◌≡◌, take, flat_map, weights_of}
use Rattle.statement_names.proofs.order.weights_of.Given as goal

abbrev pub invariant-loop-pair : goal.invariant-loop-pair
invariant-loop-pair l = l.weights ≡ flat_map (weights_of l.quiver) (take l.pair-index l.pairs)
