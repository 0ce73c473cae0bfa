use Rattle.abbreviations.proofs.Prelude.{arith, common_steps}
use Rattle.abbreviations.proofs.Trees.{mark-sum, mark-term}
use Rattle.abbreviations.proofs.occurrence.+marks.Goals as goal

pub has_quote-returns-then-has_quote_in_term : goal.has_quote-returns-then-has_quote_in_term
has_quote-returns-then-has_quote_in_term t c = grind (arith, common_steps, mark-sum)

pub has_quote-returns : goal.has_quote-returns
has_quote-returns t c = grind (arith, common_steps, mark-sum)

pub has_quote_in_term-returns-then-has_quote_in_primary : goal.has_quote_in_term-returns-then-has_quote_in_primary
has_quote_in_term-returns-then-has_quote_in_primary t c = grind (arith, common_steps, mark-term)

pub has_quote_in_term-returns : goal.has_quote_in_term-returns
has_quote_in_term-returns t c = grind (arith, common_steps, mark-term)
