use Rattle.rule_reduce.proofs.Prelude.{rules}
use Rattle.rule_reduce.proofs.ShownStates.{all-coefficients, stored_in_range, stored_overflow}
use Rattle.rule_reduce.proofs.store.ListingRowRowStore.times.Goals as goal

pub multiply_rows-requires-clause-in_range : goal.multiply_rows-requires-clause-in_range
multiply_rows-requires-clause-in_range c = all-coefficients c.args.self c.requires.in_range

pub returns-clause-in_range : goal.returns-clause-in_range
returns-clause-in_range c = stored_in_range c.multiply_rows.result (search rules)

pub returns-clause-exact : goal.returns-clause-exact
returns-clause-exact c = stored_overflow c.multiply_rows.result c.args.self c.args.by (search rules)
