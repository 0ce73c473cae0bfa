use Rattle.in_order_parallel.proofs.Zips.{AllZip-more}
use Rattle.in_order_parallel.proofs.spread.in_turn.Goals as goal

-- the answer of this item follows the others
pub loop-place-preserved : goal.loop-place-preserved
loop-place-preserved g c =
    rw c.in_ok-push.ensures.items (AllZip-more (g.J.Job.gives c.args.job.now) _ _ _ _ _ c.loop-place-test.true c.index-items-place.is c.loop-place.invariant c.go.ensures)
