use Rattle.equation_chain.proofs.Outcomes as lemma
use Rattle.equation_chain.proofs.laws.first_fault_is_unique.Goals as goal

pub returns : goal.returns
returns c = lemma.first_fault_is_unique
