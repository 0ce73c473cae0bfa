use Rattle.certificate_text.proofs.EachText as lemma
use Rattle.certificate_text.proofs.laws.evidence_has_no_fault.Goals as goal

pub returns : goal.returns
returns c = lemma.evidence_has_no_fault
