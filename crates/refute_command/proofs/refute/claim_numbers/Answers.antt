use Rattle.refute_command.proofs.Prelude.{◌+◌, length, arith, items_from_collect, YieldsList-from_range}
use Rattle.refute_command.proofs.refute.claim_numbers.Goals as goal

pub returns : goal.returns
returns c =
    let count = length c.args.problem.now.parts.claims in
    items_from_collect _ c.collect.ensures.ran (YieldsList-from_range 1 (count + 1) count (cc) (omega arith))
