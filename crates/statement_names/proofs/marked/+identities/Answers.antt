use Rattle.statement_names.proofs.Prelude.{arith, common_steps, identity-sum, identity-term}
use Rattle.statement_names.proofs.marked.+identities.Goals as goal

pub mark_sum-returns : goal.mark_sum-returns
mark_sum-returns t c = grind (arith, common_steps, identity-sum)

pub mark_term-returns : goal.mark_term-returns
mark_term-returns t c = grind (arith, common_steps, identity-term)
