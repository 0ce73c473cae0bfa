use Rattle.certificate_text.proofs.EachText as lemma
use Rattle.certificate_text.proofs.laws.evidence_is_unique.Goals as goal

pub returns : goal.returns
returns c = lemma.evidence_is_unique
