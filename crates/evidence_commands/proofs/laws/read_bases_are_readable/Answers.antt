use Rattle.evidence_commands.proofs.ReadBases.{read_bases_are_readable}
use Rattle.evidence_commands.proofs.laws.read_bases_are_readable.Goals as goal

pub returns : goal.returns
returns c = read_bases_are_readable
