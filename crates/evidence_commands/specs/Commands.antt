-- The commands of evidence, one line each.
use Rattle.std.specs.Prelude.{ℕ, List}
use Rattle.definitions.specs.Category.{Structure}
use Rattle.adjoint_rules.specs.declared.problem.Problem.{Problem}
use Rattle.command_shape.specs.declared.evidence.EvidenceCommand.{EvidenceCommand}
use Rattle.command_shape.specs.declared.evidence.EvidenceCommand.TheVariants.{Check, Model, Confirm, Explain, Cancel}
use Rattle.command_shape.specs.Ending.{Ending}
use Rattle.evidence_commands.specs.Kind.{Kind, AnswersText, Says}
use Rattle.evidence_commands.specs.Check.{certificates}
use Rattle.evidence_commands.specs.Model.{models}
use Rattle.evidence_commands.specs.Confirm.{bases}
use Rattle.evidence_commands.specs.Explain.{chains}
use Rattle.evidence_commands.specs.Cancel.{cancellations}

-- a kind with what it judges
pub record Judging : Type 1 where
  pub Block : Type 0
  pub Refusal : Type 0
  pub kind : Kind Block Refusal

abbrev pub judging : {Block Refusal : Type 0} → Kind Block Refusal → Judging
judging {Block} {Refusal} kind = record { Block = Block; Refusal = Refusal; kind = kind }

-- what each command judges
abbrev pub judged_by : EvidenceCommand → Judging
-- certificates that are accepted prove the claims that they name
judged_by Check = judging certificates
-- models that are confirmed refute the claims that they name
judged_by Model = judging models
-- bases that are closed show that the claims that they name do not follow
judged_by Confirm = judging bases
-- certificates that are explained lead by a chain from a multiple of their claims to zero
judged_by Explain = judging chains
-- proofs that are accepted show the claims that they name, where the letters that they call monic and epic have such arrows
judged_by Cancel = judging cancellations

-- how a run of the command ends over a problem and a text of evidence
abbrev pub AnswersEvidence : EvidenceCommand → List ℕ → Problem → Ending → Type 0
AnswersEvidence Check = AnswersText certificates
AnswersEvidence Model = AnswersText models
AnswersEvidence Confirm = AnswersText bases
AnswersEvidence Explain = AnswersText chains
AnswersEvidence Cancel = AnswersText cancellations

-- and what that says
abbrev pub SaysEvidence : {Object Arrow : Type 0} → Structure Object Arrow → EvidenceCommand → List ℕ → List ℕ → List ℕ → Type 0
SaysEvidence s command = Says (judged_by command).kind s
