use Rattle.report_readback.proofs.Declared.{declared_names_are_names}
use Rattle.report_readback.proofs.Outcomes.{outcome_reports_read_back}
use Rattle.report_readback.proofs.laws.statement_reports_are_read_back.Goals as goal

pub returns : goal.returns
returns c = λ bytes statements problem budget form outcomes verdicts rules tree is are_outcomes are_verdicts are_rules.
    outcome_reports_read_back problem budget form outcomes verdicts rules are_outcomes are_verdicts are_rules (declared_names_are_names bytes statements problem tree is)
