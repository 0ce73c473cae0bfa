use Rattle.in_order_parallel.proofs.Shares.{back_is_busy}
use Rattle.in_order_parallel.proofs.spread.share_of.Goals as goal

pub returns-clause-back_busy : goal.returns-clause-back_busy
returns-clause-back_busy c = rw c.min.ensures (back_is_busy c.args.front c.args.workers c.args.items c.requires)
