use Rattle.adjoint_rules.proofs.Counted.{few_closed}
use Rattle.adjoint_rules.proofs.problem.close_problem.Goals as goal

pub invariant_of-result : goal.invariant_of-result
invariant_of-result c =
    record {
      posed = c.requires;
      closed = c.in-Ok.ensures.closed;
      few = few_closed c.args.parts _ c.requires c.in-Ok.ensures.closed;
      counted = c.in-Ok.ensures.counted;
    }
