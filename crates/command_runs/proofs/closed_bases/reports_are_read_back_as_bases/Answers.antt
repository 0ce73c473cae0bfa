use Rattle.command_runs.proofs.BasisReports.{reports_read_back_as_bases}
use Rattle.command_runs.proofs.closed_bases.reports_are_read_back_as_bases.Goals as goal

pub returns : goal.returns
returns c = reports_read_back_as_bases
