use Rattle.in_order_parallel.proofs.Prelude.{◌+◌, ◌*◌}
use Rattle.in_order_parallel.proofs.spread.+spread.Given as goal

abbrev pub decreases-join+arg2 : goal.decreases-join+arg2
decreases-join+arg2 g l = 2 * l.ahead + 1

abbrev pub decreases-join+arg3 : goal.decreases-join+arg3
decreases-join+arg3 g l = 2 * l.behind + 1

abbrev pub decreases-spread : goal.decreases-spread
decreases-spread g l = 2 * l.workers
