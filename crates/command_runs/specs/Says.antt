-- What a report says in a category: the main theorem's second page. Each line cites one record of a command's crate.
use Rattle.std.specs.Prelude.{ℕ, List}
use Rattle.definitions.specs.Category.{Structure}
use Rattle.report_text.specs.Report.{heads_of}
use Rattle.command_shape.specs.declared.call.Call.{Call}
use Rattle.command_shape.specs.declared.call.Call.TheVariants as call
use Rattle.command_shape.specs.Ending.{Ending}
use Rattle.prove_command.specs.Answers.{asked_by, asked_by_bench}
use Rattle.prove_command.specs.Says.{SaysDecided, SaysReported}
use Rattle.refute_command.specs.Says.{SaysSearched}
use Rattle.evidence_commands.specs.Commands.{SaysEvidence}
use Rattle.command_runs.specs.CallFiles.{AreContents, statement_of, evidence_of}

-- what the ending of a call says, by its statement and its text of evidence
abbrev pub SaysOver : {Object Arrow : Type 0} → Structure Object Arrow → Call → List ℕ → List ℕ → Ending → Type 0
-- each verdict that is printed means what it says: proved, refuted, not derivable, undecided; and the report is its own evidence
SaysOver s (call.Prove p) statement evidence ending = SaysReported s (asked_by p) statement ending
SaysOver s (call.Bench b) statement evidence ending = SaysDecided s heads_of asked_by_bench statement ending
-- each model that is printed refutes its claim; and the report is its own evidence
SaysOver s (call.Refute p) statement evidence ending = SaysSearched p.seed statement ending
-- each certificate that is accepted proves the claim that it names, each model that is confirmed refutes its claim, each basis that is
-- accepted shows that its claim does not follow, each chain that is printed leads from a multiple of its claim to zero, and each proof that
-- is accepted shows its claim, where the letters that it calls monic and epic have such arrows
SaysOver s (call.Evidence command p) statement evidence ending = SaysEvidence s command statement evidence ending.report

-- by the contents of its files
abbrev pub Says : {Object Arrow : Type 0} → Structure Object Arrow → Call → List (List ℕ) → Ending → Type 0
Says s call contents ending = AreContents call contents × SaysOver s call (statement_of call contents) (evidence_of contents) ending
