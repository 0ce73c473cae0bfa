use Rattle.command_runs.proofs.OwnReports.{reports_are_checked}
use Rattle.command_runs.proofs.laws.reports_are_checked.Goals as goal

pub returns : goal.returns
returns c = reports_are_checked
