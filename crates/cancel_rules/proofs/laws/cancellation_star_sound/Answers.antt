use Rattle.cancel_rules.proofs.Meaning as meaning
use Rattle.cancel_rules.proofs.laws.cancellation_star_sound.Goals as goal

pub returns : goal.returns
returns g c = meaning.cancellation_star_sound (g.C.Preadditive.laws c.args.category.now) (g.met.C.Involutive.involution_laws c.args.category.now)
