use Rattle.matrix_models.proofs.Prelude.{◌≡◌, ◌*◌, ◌%◌, ◌<◌}
use Rattle.matrix_models.proofs.elimination.inverse.Given as goal

-- the product of the number and the factor is what is left
abbrev pub invariant-loop-rest : goal.invariant-loop-rest
invariant-loop-rest l = record {
  product : (l.number * l.factor) % l.modulus ≡ l.rest;
  positive : 0 < l.rest;
  below : l.rest < l.modulus;
  factor_below : l.factor < l.modulus;
}

abbrev pub decreases-loop-rest : goal.decreases-loop-rest
decreases-loop-rest l = l.rest
