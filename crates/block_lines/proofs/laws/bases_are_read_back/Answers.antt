use Rattle.block_lines.proofs.BasesBack.{bases_back}
use Rattle.block_lines.proofs.laws.bases_are_read_back.Goals as goal

pub returns : goal.returns
returns c ds declared known = (bases_back ds declared known).between
