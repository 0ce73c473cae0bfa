use Rattle.model_candidates.proofs.Prelude.{◌≡◌, ◌*◌, ◌%◌, ◌<◌, get_or, total, value_in_table}
use Rattle.model_candidates.proofs.word_rows.product_entry.Given as goal

-- the sum of the products so far, up to a multiple of the modulus
abbrev pub invariant-loop-k : goal.invariant-loop-k
invariant-loop-k l = record {
  sum_is : l.sum % l.modulus ≡ total l.k (λ j. get_or l.row j 0 * value_in_table l.values l.table j l.fn.column) % l.modulus;
  sum_below : l.sum < l.modulus * l.modulus;
}
