use Rattle.matrix_models.proofs.Prelude.{◌≡◌, ◌*◌, ◌%◌, ◌<◌, entry_at, total}
use Rattle.matrix_models.proofs.matrices.product_entry.Given as goal

-- the sum of the products so far, up to a multiple of the modulus
abbrev pub invariant-loop-k : goal.invariant-loop-k
invariant-loop-k l = record {
  sum_is : l.sum % l.modulus ≡ total l.k (λ k. entry_at l.left l.row k * entry_at l.right k l.column) % l.modulus;
  sum_below : l.sum < l.modulus * l.modulus;
}
