use Rattle.block_lines.proofs.EachText as lemma
use Rattle.block_lines.proofs.laws.first_fault_is_unique.Goals as goal

pub returns : goal.returns
returns c = lemma.first_fault_is_unique
