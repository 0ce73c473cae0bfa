use Rattle.command_runs.proofs.OwnReports.{reports_are_confirmed}
use Rattle.command_runs.proofs.laws.reports_are_confirmed.Goals as goal

pub returns : goal.returns
returns c = reports_are_confirmed
