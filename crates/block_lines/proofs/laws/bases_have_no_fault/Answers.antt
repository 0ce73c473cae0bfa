use Rattle.block_lines.proofs.EachText as lemma
use Rattle.block_lines.proofs.laws.bases_have_no_fault.Goals as goal

pub returns : goal.returns
returns c = lemma.bases_have_no_fault
