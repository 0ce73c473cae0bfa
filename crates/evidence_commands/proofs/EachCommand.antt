-- What each command of evidence owes, one line a command.
use Rattle.evidence_commands.proofs.Prelude.{ℕ, List, EvidenceCommand, Check, Confirm, Explain, Cancel, Problem, Ending, OverStatement, OwesEnding, judged_by, AnswersEvidence, SaysEvidence, AnswersText, certificates, models, bases, chains, cancellations}
use Rattle.command_shape.specs.declared.evidence.EvidenceCommand.TheVariants.{Model}
use Rattle.evidence_commands.proofs.Owed.{IsJudged, owes}
use Rattle.evidence_commands.proofs.Certificates.{certificates_are_judged}
use Rattle.evidence_commands.proofs.Models.{models_are_judged}
use Rattle.evidence_commands.proofs.Bases.{bases_are_judged}
use Rattle.evidence_commands.proofs.Chains.{chains_are_judged}
use Rattle.evidence_commands.proofs.Cancellations.{cancellations_are_judged}

pub are_judged : (command : EvidenceCommand) → IsJudged (judged_by command).kind
are_judged Check = certificates_are_judged
are_judged Model = models_are_judged
are_judged Confirm = bases_are_judged
are_judged Explain = chains_are_judged
are_judged Cancel = cancellations_are_judged

pub evidence_owes : (command : EvidenceCommand) (statement text : List ℕ)
    → OwesEnding (OverStatement statement (AnswersEvidence command text)) (λ Object Arrow s ending. SaysEvidence s command statement text ending.report)
evidence_owes Check = owes certificates certificates_are_judged
evidence_owes Model = owes models models_are_judged
evidence_owes Confirm = owes bases bases_are_judged
evidence_owes Explain = owes chains chains_are_judged
evidence_owes Cancel = owes cancellations cancellations_are_judged

-- it ends as what it judges
pub answers_judged : (command : EvidenceCommand) (text : List ℕ) (problem : Problem) (ending : Ending) → AnswersEvidence command text problem ending → AnswersText (judged_by command).kind text problem ending
answers_judged Check text problem ending ends = ends
answers_judged Model text problem ending ends = ends
answers_judged Confirm text problem ending ends = ends
answers_judged Explain text problem ending ends = ends
answers_judged Cancel text problem ending ends = ends
