use Rattle.adjoint_rules.proofs.Involution as lemma
use Rattle.adjoint_rules.proofs.laws.adjoints_are_an_involution.Goals as goal

pub returns : goal.returns
returns c = lemma.adjoints_are_an_involution
