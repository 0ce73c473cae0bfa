use Rattle.block_text.proofs.PolynomialFlaws as lemma
use Rattle.block_text.proofs.laws.polynomial_lines_are_read.Goals as goal

pub returns : goal.returns
returns c = lemma.polynomial_lines_are_read
