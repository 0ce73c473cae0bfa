use Rattle.closed_checker.proofs.Prelude.{rules}
use Rattle.closed_checker.proofs.Tables.{table-sorted}
use Rattle.closed_checker.proofs.table.make_table.Goals as goal

pub returns : goal.returns
returns c =
    table-sorted c.args.rules.now c.in_ok-leads.leads.items c.sort_leads.new.leads.items c.in_ok-leads.ensures c.sort_leads.ensures.permutation (search rules)
