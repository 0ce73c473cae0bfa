use Rattle.definitions.proofs.StarSound as certificates
use Rattle.representations.proofs.Lemmas as lemmas
use Rattle.representations.proofs.laws.star_sound.Goals as goal

pub returns-clause-generators : goal.returns-clause-generators
returns-clause-generators g c = certificates.star_sound (g.C.Preadditive.laws c.args.category.now) (g.met.C.Involutive.involution_laws c.args.category.now)

pub returns-clause-lemmas : goal.returns-clause-lemmas
returns-clause-lemmas g c = lemmas.lemmas_star_sound (g.C.Preadditive.laws c.args.category.now) (g.met.C.Involutive.involution_laws c.args.category.now)
