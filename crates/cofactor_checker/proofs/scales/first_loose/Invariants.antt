use Rattle.cofactor_checker.proofs.Prelude.{◌≡◌, All, take}
use Rattle.cofactor_checker.proofs.scales.first_loose.Given as goal

abbrev pub invariant-loop-item : goal.invariant-loop-item
invariant-loop-item g l = record {
  numbered : l.number ≡ l.item-index;
  tight : All (g.I.Scaled.tight l.denominator) (take l.item-index l.items);
}
