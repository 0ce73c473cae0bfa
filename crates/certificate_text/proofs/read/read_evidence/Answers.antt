use Rattle.traced_rows.specs.declared.evidence.Format.TheVariants as Format
use Rattle.certificate_text.proofs.Prelude.{values_told, certificate_kind, certificate_steps}
use Rattle.certificate_text.proofs.Checkable.{checkable_told}
use Rattle.certificate_text.proofs.Reader.{reader}
use Rattle.certificate_text.proofs.read.read_evidence.Goals as goal

pub returns-clause-exact : goal.returns-clause-exact
returns-clause-exact c =
    values_told (certificate_kind Format.Lemmas c.args.quiver.now) (certificate_steps Format.Lemmas c.args.quiver.now) (reader Format.Lemmas c.args.quiver.now) c.args.bytes.now c.read_blocks.result c.read_blocks.ensures

pub returns-clause-checkable : goal.returns-clause-checkable
returns-clause-checkable c = checkable_told c.args.quiver.now Format.Lemmas c.args.bytes.now c.read_blocks.result c.read_blocks.ensures
