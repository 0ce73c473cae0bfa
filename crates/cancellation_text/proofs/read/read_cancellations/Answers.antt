use Rattle.cancellation_text.proofs.Prelude.{values_told, cancellation_kind, cancellation_steps}
use Rattle.cancellation_text.proofs.Readable.{readable_told}
use Rattle.cancellation_text.proofs.Reader.{reader}
use Rattle.cancellation_text.proofs.read.read_cancellations.Goals as goal

pub returns-clause-exact : goal.returns-clause-exact
returns-clause-exact c =
    values_told (cancellation_kind c.args.quiver.now) (cancellation_steps c.args.quiver.now) (reader c.args.quiver.now) c.args.bytes.now c.read_blocks.result c.read_blocks.ensures

pub returns-clause-readable : goal.returns-clause-readable
returns-clause-readable c = readable_told c.args.quiver.now c.args.bytes.now c.read_blocks.result c.read_blocks.ensures
