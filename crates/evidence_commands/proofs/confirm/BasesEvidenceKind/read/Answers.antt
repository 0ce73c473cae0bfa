use Rattle.evidence_commands.proofs.Bases.{read_readable}
use Rattle.evidence_commands.proofs.confirm.BasesEvidenceKind.read.Goals as goal

-- what is read can be checked
pub returns-clause-readable : goal.returns-clause-readable
returns-clause-readable c = read_readable c.args.quiver.now c.args.text.now c.read_bases.result c.read_bases.ensures.exact
