use Rattle.equation_chain.proofs.Outcomes as lemma
use Rattle.equation_chain.proofs.laws.each_certificate_is_explained.Goals as goal

pub returns : goal.returns
returns c = lemma.each_is_explained
