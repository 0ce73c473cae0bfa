-- evidence that passes each test shows its claim
use Rattle.cofactor_checker.proofs.Prelude.{Plain, Lemmas, AcceptedEvidenceAddsUp}
use Rattle.cofactor_checker.proofs.Outcomes.{combination_from_accepts}
use Rattle.cofactor_checker.proofs.LemmaSums.{shows}

pub accepted_evidence_adds_up : AcceptedEvidenceAddsUp
accepted_evidence_adds_up claims generators (Plain c) accepted = combination_from_accepts accepted
accepted_evidence_adds_up claims generators (Lemmas c) accepted = shows claims generators c accepted
