use Rattle.equation_chain.proofs.OneChain as lemma
use Rattle.equation_chain.proofs.laws.texts_tell_chains.Goals as goal

pub returns : goal.returns
returns c = lemma.texts_tell_chains
