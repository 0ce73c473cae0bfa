use Rattle.expressions.proofs.Prelude.{rules, always_returns_same, word_cmp}
use Rattle.expressions.proofs.added.place_of.Goals as goal

pub returns-clause-place : goal.returns-clause-place
returns-clause-place c = c.binary_search_by.ensures.position (λ t. word_cmp c.args.word.now t.1) (always_returns_same _ _ _ (λ a r f k. search rules))
