use Rattle.equation_chain.proofs.ChainsBack as lemma
use Rattle.equation_chain.proofs.laws.chains_are_read_back.Goals as goal

pub returns : goal.returns
returns c = lemma.chains_are_read_back
