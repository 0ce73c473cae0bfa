use Rattle.outcome_laws.proofs.EvidenceFits.{evidence_fits}
use Rattle.outcome_laws.proofs.limit_laws.evidence_fits.Goals as goal

pub returns : goal.returns
returns c = evidence_fits
