use Rattle.equation_chain.proofs.Sums as lemma
use Rattle.equation_chain.proofs.laws.steps_add_up.Goals as goal

pub returns : goal.returns
returns c = lemma.steps_add_up
