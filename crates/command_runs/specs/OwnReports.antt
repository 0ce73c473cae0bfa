-- What `check` and `model` answer to a report of `prove` or `refute` on the same statement.
use Rattle.std.specs.Prelude.{ℕ, ◌≡◌, ◌+◌, List, ◌++◌, length, Some}
use Rattle.traced_rows.specs.declared.evidence.Evidence.{Evidence}
use Rattle.matrix_models.specs.declared.model.Model.{Model}
use Rattle.adjoint_rules.specs.declared.problem.Problem.{Problem}
use Rattle.cofactor_checker.specs.declared.refusal.Refusal.{Refusal}
use Rattle.block_text.specs.Fault.{no_block}
use Rattle.report_text.specs.Report.{report_of}
use Rattle.report_readback.specs.Answered.{PassesLimit}
use Rattle.command_shape.specs.Ending.{Ending, line, refused_evidence}
use Rattle.command_shape.specs.Texts.{evidence_fault}
use Rattle.stated_problem.specs.Stated.{IsStated}
use Rattle.command_shape.specs.Blocks.{refused_text}
use Rattle.prove_command.specs.declared.prove.Asked.{Asked}
use Rattle.prove_command.specs.Answers.{AnswersClaims}
use Rattle.refute_command.specs.Answers.{AnswersSearch}
use Rattle.evidence_commands.specs.Kind.{AnswersBoth, accepted_lines}
use Rattle.evidence_commands.specs.Causes.{cause_text}
use Rattle.evidence_commands.specs.Check.{certificates}
use Rattle.evidence_commands.specs.Model.{models}

-- a report of `prove`, with any options, or of `refute`, with any seed, on the problem of a statement
pub data IsReportOn (problem : Problem) (ending : Ending) : Type 0 where
  of_prove : (asked : Asked) → AnswersClaims report_of asked problem ending → IsReportOn problem ending
  of_refute : (seed : ℕ) → AnswersSearch seed problem ending → IsReportOn problem ending

-- a text of evidence without a block is refused
abbrev pub no_blocks : Ending
no_blocks = refused_evidence (evidence_fault no_block.code no_block.line no_block.limit)

-- All certificates are accepted; or the first whose sum exceeds a limit is refused; or there are none.
pub data ChecksReport (problem : Problem) (ending : Ending) : Type 0 where
  all : (es : List Evidence) → ending ≡ record { status = 0; report = accepted_lines certificates problem 1 es } → ChecksReport problem ending
  limit : (first : List Evidence) (refusal : Refusal) (cause : List ℕ) → PassesLimit refusal → cause_text problem.parts.quiver refusal ≡ Some cause
      → ending ≡ record { status = 7; report = accepted_lines certificates problem 1 first ++ line (refused_text (1 + length first) cause) } → ChecksReport problem ending
  none : ending ≡ no_blocks → ChecksReport problem ending

-- All models are confirmed, or there are none.
pub data ConfirmsReport (problem : Problem) (ending : Ending) : Type 0 where
  all : (ms : List Model) → ending ≡ record { status = 0; report = accepted_lines models problem 1 ms } → ConfirmsReport problem ending
  none : ending ≡ no_blocks → ConfirmsReport problem ending

-- This holds for each report on a statement.
abbrev pub ReportsAreChecked : Type 0
ReportsAreChecked = (statement : List ℕ) (problem : Problem) (report ending : Ending) → IsStated statement problem → IsReportOn problem report
    → AnswersBoth certificates statement report.report ending → ChecksReport problem ending

abbrev pub ReportsAreConfirmed : Type 0
ReportsAreConfirmed = (statement : List ℕ) (problem : Problem) (report ending : Ending) → IsStated statement problem → IsReportOn problem report
    → AnswersBoth models statement report.report ending → ConfirmsReport problem ending
