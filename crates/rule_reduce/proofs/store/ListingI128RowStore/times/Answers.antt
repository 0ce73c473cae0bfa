use Rattle.rule_reduce.proofs.Prelude.{rules}
use Rattle.rule_reduce.proofs.ShownStates.{stored_numbers}
use Rattle.rule_reduce.proofs.store.ListingI128RowStore.times.Goals as goal

pub returns-clause-kept : goal.returns-clause-kept
returns-clause-kept c = stored_numbers c.multiply_numbers.result c.args.self c.args.by (search rules)
