use Rattle.equation_chain.proofs.Chains as lemma
use Rattle.equation_chain.proofs.laws.lines_are_a_chain.Goals as goal

pub returns : goal.returns
returns c = lemma.lines_are_a_chain
