use Rattle.statement_syntax.proofs.Prelude.{arith, common_steps}
use Rattle.statement_syntax.proofs.TreeKinds.{sum-flat, term-flat}
use Rattle.statement_syntax.proofs.kinds.+kinds.Goals as goal

pub put_sum-returns : goal.put_sum-returns
put_sum-returns t c = grind (arith, common_steps, sum-flat)

pub put_term-returns : goal.put_term-returns
put_term-returns t c = grind (arith, common_steps, term-flat)
