use Rattle.block_text.proofs.PolynomialFlaws as lemma
use Rattle.block_text.proofs.laws.polynomial_flaws_are_told.Goals as goal

pub returns : goal.returns
returns c = lemma.polynomial_flaws_are_told
