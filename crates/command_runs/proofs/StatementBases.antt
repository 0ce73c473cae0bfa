-- The report on a statement is read as the bases of its claims that are closed.
use Rattle.command_runs.proofs.Prelude.{sym, subst, All, claim_numbers, last_rules_have_letters, IsWritableBasis, report_of, declared_names_are_names, verdicts_writable, few_verdicts, IsReadAsBases, StatementReportsReadBackAsBases}
use Rattle.command_runs.proofs.BasisReports.{reports_read_back_as_bases}
use Rattle.command_runs.proofs.ClaimBases.{same_bases, closed_are_writable}

pub statement_reports_read_back_as_bases : StatementReportsReadBackAsBases
statement_reports_read_back_as_bases bytes statements problem budget form outcomes verdicts rules tree is are_outcomes are_verdicts last few =
    let ds = problem.parts.quiver in
    let same = same_bases ds rules 1 outcomes verdicts are_verdicts in
    subst (IsReadAsBases ds (report_of ds rules verdicts)) same
    (reports_read_back_as_bases ds rules verdicts problem.posed.declared (declared_names_are_names bytes statements problem tree is)
    (last_rules_have_letters problem budget form (claim_numbers problem) rules last)
    (verdicts_writable problem budget form outcomes verdicts are_outcomes are_verdicts)
    (subst (All (IsWritableBasis ds)) (sym same) (closed_are_writable problem budget form rules last few outcomes are_outcomes))
    (few_verdicts problem budget form outcomes verdicts are_outcomes are_verdicts))
