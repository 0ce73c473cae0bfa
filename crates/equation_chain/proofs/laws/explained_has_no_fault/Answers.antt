use Rattle.equation_chain.proofs.Outcomes as lemma
use Rattle.equation_chain.proofs.laws.explained_has_no_fault.Goals as goal

pub returns : goal.returns
returns c = lemma.explained_has_no_fault
