use Rattle.model_candidates.proofs.Prelude.{arith, items_from_collect, YieldsList-from_range}
use Rattle.model_candidates.proofs.unknowns.numbers_before.Goals as goal

pub returns : goal.returns
returns c = items_from_collect _ c.collect.ensures.ran (YieldsList-from_range 0 c.args.count c.args.count (cc) (omega arith))
