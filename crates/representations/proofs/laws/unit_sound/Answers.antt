use Rattle.definitions.proofs.UnitSound as certificates
use Rattle.representations.proofs.laws.unit_sound.Goals as goal

pub returns : goal.returns
returns g c = certificates.unit_sound (g.C.Preadditive.laws c.args.category.now)
