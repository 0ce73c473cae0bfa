use Rattle.matrix_models.proofs.Prelude.{◌*◌, ap₂, entry_at}
use Rattle.matrix_models.proofs.Products.{total-next}
use Rattle.matrix_models.proofs.matrices.product_entry.Goals as goal

pub loop-k-preserved : goal.loop-k-preserved
loop-k-preserved c =
    let left = c.args.left.now in
    let right = c.args.right.now in
    let product = ap₂ ◌*◌ c.entry.ensures.value c.entry-in-loop-k.ensures.value in
    record {
      sum_is = total-next c.from-modulus.result c.loop-k.k (λ k. entry_at left c.args.row k * entry_at right k c.args.column)
          c.loop-k.sum (c.entry.result * c.entry-in-loop-k.result) c.add_product-sum.result c.loop-k.invariant.sum_is product
          c.add_product-sum.ensures.alike;
      sum_below = c.add_product-sum.ensures.below;
    }
