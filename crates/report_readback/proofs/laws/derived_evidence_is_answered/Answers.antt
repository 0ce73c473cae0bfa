use Rattle.report_readback.proofs.Answers as lemma
use Rattle.report_readback.proofs.laws.derived_evidence_is_answered.Goals as goal

pub returns : goal.returns
returns c = lemma.derived_evidence_is_answered
