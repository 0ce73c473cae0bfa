use Rattle.representations.proofs.Lemmas as lemmas
use Rattle.representations.proofs.laws.lemmas_star_sound.Goals as goal

pub returns : goal.returns
returns g c = lemmas.lemmas_star_sound (g.C.Preadditive.laws c.args.category.now) (g.met.C.Involutive.involution_laws c.args.category.now)
