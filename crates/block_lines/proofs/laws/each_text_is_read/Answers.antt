use Rattle.block_lines.proofs.EachText as lemma
use Rattle.block_lines.proofs.laws.each_text_is_read.Goals as goal

pub returns : goal.returns
returns c = lemma.each_text_is_read
