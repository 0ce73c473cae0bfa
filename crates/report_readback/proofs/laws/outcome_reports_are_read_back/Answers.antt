use Rattle.report_readback.proofs.Outcomes.{outcome_reports_read_back}
use Rattle.report_readback.proofs.laws.outcome_reports_are_read_back.Goals as goal

pub returns : goal.returns
returns c = outcome_reports_read_back
