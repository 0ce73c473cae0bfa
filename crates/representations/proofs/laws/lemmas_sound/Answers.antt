use Rattle.representations.proofs.Lemmas as lemmas
use Rattle.representations.proofs.laws.lemmas_sound.Goals as goal

pub returns : goal.returns
returns g c = lemmas.lemmas_sound (g.C.Preadditive.laws c.args.category.now)
