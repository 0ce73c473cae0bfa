use Rattle.report_readback.proofs.Reports.{reports_read_back}
use Rattle.report_readback.proofs.laws.reports_are_read_back.Goals as goal

pub returns : goal.returns
returns c = reports_read_back
