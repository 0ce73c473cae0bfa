use Rattle.closed_checker.proofs.Prelude.{◌≡◌, length, ListsExactly}
use Rattle.closed_checker.proofs.Tables.{ByNumber, IsEarly}
use Rattle.closed_checker.proofs.table.list_leads.Given as goal

-- the leading words of the rules that were passed
abbrev pub invariant-loop-rule : goal.invariant-loop-rule
invariant-loop-rule l = record {
  counted : length l.leads.items ≡ l.rule-index;
  exact : ListsExactly ByNumber (IsEarly l.rules l.rule-index) l.leads.items;
}
