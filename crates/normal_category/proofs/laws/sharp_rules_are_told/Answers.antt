use Rattle.normal_category.proofs.Tested.{sharp_rules_are_told}
use Rattle.normal_category.proofs.laws.sharp_rules_are_told.Goals as goal

pub returns : goal.returns
returns c = sharp_rules_are_told
