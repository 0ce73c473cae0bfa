use Rattle.equation_chain.proofs.Readable as lemma
use Rattle.equation_chain.proofs.laws.explained_is_readable.Goals as goal

pub returns : goal.returns
returns c = lemma.explained_is_readable
