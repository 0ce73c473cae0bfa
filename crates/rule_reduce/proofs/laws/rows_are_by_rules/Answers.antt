use Rattle.rule_reduce.proofs.RowsByRules.{rows_are_by_rules}
use Rattle.rule_reduce.proofs.laws.rows_are_by_rules.Goals as goal

pub returns : goal.returns
returns c = rows_are_by_rules
