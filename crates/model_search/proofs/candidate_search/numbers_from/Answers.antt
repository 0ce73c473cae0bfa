use Rattle.model_search.proofs.Prelude.{◌+◌, arith, items_from_collect, YieldsList-from_range}
use Rattle.model_search.proofs.candidate_search.numbers_from.Goals as goal

pub returns : goal.returns
returns c = items_from_collect _ c.collect.ensures.ran
    (YieldsList-from_range c.args.first (c.args.first + c.args.count) c.args.count (cc) (omega arith))
