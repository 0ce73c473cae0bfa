use Rattle.equation_chain.proofs.Typed as lemma
use Rattle.equation_chain.proofs.laws.steps_are_typed.Goals as goal

pub returns : goal.returns
returns c = lemma.steps_typed
