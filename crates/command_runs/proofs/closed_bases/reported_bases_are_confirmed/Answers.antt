use Rattle.command_runs.proofs.ClaimBases.{reported_bases_are_confirmed}
use Rattle.command_runs.proofs.closed_bases.reported_bases_are_confirmed.Goals as goal

pub returns : goal.returns
returns c = reported_bases_are_confirmed
