use Rattle.block_text.proofs.PolynomialsBack as lemma
use Rattle.block_text.proofs.laws.polynomials_are_read_back.Goals as goal

pub returns : goal.returns
returns c = lemma.polynomials_are_read_back
