use Rattle.matrix_models.proofs.Prelude.{◌≡◌, ◌*◌, ◌%◌, ◌<◌, get_or, total}
use Rattle.matrix_models.proofs.pivots.value_left.Given as goal

-- the sum of the products so far, up to a multiple of the modulus
abbrev pub invariant-loop-k : goal.invariant-loop-k
invariant-loop-k l = record {
  sum_is : l.sum % l.modulus ≡ total l.k (λ k. get_or l.row k 0 * get_or l.values k 0) % l.modulus;
  sum_below : l.sum < l.modulus * l.modulus;
}
