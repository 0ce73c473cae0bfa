use Rattle.cofactor_checker.proofs.Prelude.{All, take}
use Rattle.cofactor_checker.proofs.scales.have_scales.Given as goal

abbrev pub invariant-loop-item : goal.invariant-loop-item
invariant-loop-item g l = All g.I.Scaled.positive (take l.item-index l.items)
