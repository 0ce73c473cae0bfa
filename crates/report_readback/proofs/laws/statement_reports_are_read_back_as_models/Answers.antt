use Rattle.report_readback.proofs.Declared.{declared_names_are_names}
use Rattle.report_readback.proofs.Prelude.{claim_numbers, last_rules_have_letters}
use Rattle.report_readback.proofs.ModelReports.{reports_read_back_as_models}
use Rattle.report_readback.proofs.Outcomes.{verdicts_writable, few_verdicts}
use Rattle.report_readback.proofs.laws.statement_reports_are_read_back_as_models.Goals as goal

pub returns : goal.returns
returns c = λ bytes statements problem budget form outcomes verdicts rules tree is are_outcomes are_verdicts are_rules are_models.
    reports_read_back_as_models problem.parts.quiver rules verdicts problem.posed.declared (declared_names_are_names bytes statements problem tree is)
    (last_rules_have_letters problem budget form (claim_numbers problem) rules are_rules) (verdicts_writable problem budget form outcomes verdicts are_outcomes are_verdicts) are_models
    (few_verdicts problem budget form outcomes verdicts are_outcomes are_verdicts)
