use Rattle.equation_chain.proofs.Prelude.{arith}
use Rattle.equation_chain.proofs.Going.{count_step, count_few, count_all}
use Rattle.equation_chain.proofs.step.count_steps.Goals as goal

pub loop-row-preserved : goal.loop-row-preserved
loop-row-preserved c = record {
  so_far = count_step c.args.problem.now c.args.certificate.now.claim c.as_slice-rows.result.now c.loop-row.row-index c.row-item.result c.loop-row.count _ _
      c.loop-row-test.true c.row-item.is c.loop-row.invariant.so_far c.is_row_step.ensures c.counted-count.ensures;
  few = count_few _ c.loop-row.count _ c.loop-row.row-index c.loop-row.invariant.few c.counted-count.ensures;
}

pub returns : goal.returns
returns c = count_all c.args.problem.now c.args.certificate.now c.as_slice-rows.result.now c.loop-row.row-index c.loop-row.count c.as_slice-rows.ensures (omega arith) c.loop-row.invariant.so_far
