use Rattle.equation_chain.proofs.OneChain as lemma
use Rattle.equation_chain.proofs.laws.chains_are_unique.Goals as goal

pub returns : goal.returns
returns c = lemma.chains_are_unique
