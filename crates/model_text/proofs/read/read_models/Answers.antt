use Rattle.model_text.proofs.Prelude.{values_told, model_kind, model_steps}
use Rattle.model_text.proofs.ModelValues.{are_models}
use Rattle.model_text.proofs.Reader.{reader}
use Rattle.model_text.proofs.read.read_models.Goals as goal

pub returns-clause-exact : goal.returns-clause-exact
returns-clause-exact c = values_told (model_kind c.args.quiver.now) (model_steps c.args.quiver.now) (reader c.args.quiver.now) c.args.bytes.now c.read_blocks.result c.read_blocks.ensures

pub returns-clause-models : goal.returns-clause-models
returns-clause-models c = are_models c.args.quiver.now c.args.bytes.now c.read_blocks.result c.read_blocks.ensures
