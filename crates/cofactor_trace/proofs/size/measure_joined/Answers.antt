use Rattle.cofactor_trace.proofs.Prelude.{◌+◌, map, drop, sym, ap, ◌∙◌, drop_next, joined_row, measured_all}
use Rattle.cofactor_trace.proofs.size.measure_joined.Goals as goal

pub loop-row-preserved : goal.loop-row-preserved
loop-row-preserved c = λ k.
    let inner = c.args.inner.now in
    let i = c.loop-row.row-index in
    let jr = joined_row k c.args.outer.now in
    ap (λ s. measured_all s (map jr (drop (i + 1) inner))) (c.measure_row-size.ensures k)
    ∙ ap (λ l. measured_all c.loop-row.size (map jr l)) (sym (drop_next inner i c.row-item.result c.loop-row-test.true c.row-item.is))
    ∙ c.loop-row.invariant k
