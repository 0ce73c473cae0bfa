use Rattle.block_lines.proofs.EachText as lemma
use Rattle.block_lines.proofs.laws.bases_are_unique.Goals as goal

pub returns : goal.returns
returns c = lemma.bases_are_unique
