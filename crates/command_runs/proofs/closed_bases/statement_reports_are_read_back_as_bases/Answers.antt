use Rattle.command_runs.proofs.StatementBases.{statement_reports_read_back_as_bases}
use Rattle.command_runs.proofs.closed_bases.statement_reports_are_read_back_as_bases.Goals as goal

pub returns : goal.returns
returns c = statement_reports_read_back_as_bases
