use Rattle.equation_chain.proofs.Vanishing as lemma
use Rattle.equation_chain.proofs.laws.lines_are_typed.Goals as goal

pub returns : goal.returns
returns c = lemma.lines_typed
