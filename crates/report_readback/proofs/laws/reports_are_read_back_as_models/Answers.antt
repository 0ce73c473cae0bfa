use Rattle.report_readback.proofs.ModelReports.{reports_read_back_as_models}
use Rattle.report_readback.proofs.laws.reports_are_read_back_as_models.Goals as goal

pub returns : goal.returns
returns c = reports_read_back_as_models
