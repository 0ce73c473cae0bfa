use Rattle.cancel_rules.proofs.Meaning as meaning
use Rattle.cancel_rules.proofs.laws.cancellation_sound.Goals as goal

pub returns : goal.returns
returns g c = meaning.cancellation_sound (g.C.Preadditive.laws c.args.category.now)
