use Rattle.definitions.proofs.Sound as certificates
use Rattle.representations.proofs.Lemmas as lemmas
use Rattle.representations.proofs.laws.sound.Goals as goal

pub returns-clause-rows : goal.returns-clause-rows
returns-clause-rows g c = certificates.sound (g.C.Preadditive.laws c.args.category.now)

pub returns-clause-lemmas : goal.returns-clause-lemmas
returns-clause-lemmas g c = lemmas.lemmas_sound (g.C.Preadditive.laws c.args.category.now)
