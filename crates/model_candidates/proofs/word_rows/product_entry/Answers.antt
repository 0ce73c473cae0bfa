use Rattle.model_candidates.proofs.Prelude.{◌*◌, get_or, ap, total-next, value_in_table}
use Rattle.model_candidates.proofs.word_rows.product_entry.Goals as goal

pub loop-k-preserved : goal.loop-k-preserved
loop-k-preserved c =
    let row = c.args.row.now in
    let k = c.loop-k.k in
    record {
      sum_is = total-next c.from-modulus.result k (λ j. get_or row j 0 * value_in_table c.args.values.now c.args.table.now j c.args.column)
          c.loop-k.sum _ c.add_product-sum.result c.loop-k.invariant.sum_is (ap (λ y. get_or row k 0 * y) c.value_in_table-value.ensures)
          c.add_product-sum.ensures.alike;
      sum_below = c.add_product-sum.ensures.below;
    }
