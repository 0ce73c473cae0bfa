use Rattle.command_runs.proofs.Printed.{printed_bases_are_confirmed}
use Rattle.command_runs.proofs.closed_bases.printed_bases_are_confirmed.Goals as goal

pub returns : goal.returns
returns c = printed_bases_are_confirmed
