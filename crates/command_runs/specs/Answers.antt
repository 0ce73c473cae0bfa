-- What each command answers, from the contents of its files.
use Rattle.std.specs.Prelude.{ℕ, List}
use Rattle.adjoint_rules.specs.declared.problem.Problem.{Problem}
use Rattle.command_shape.specs.declared.call.Call.{Call}
use Rattle.command_shape.specs.declared.call.Call.TheVariants.{Prove, Refute, Bench, Evidence}
use Rattle.report_text.specs.Report.{report_of, heads_of}
use Rattle.command_shape.specs.Ending.{Ending}
use Rattle.stated_problem.specs.Statement.{OverStatement}
use Rattle.prove_command.specs.Answers.{asked_by, asked_by_bench, AnswersClaims}
use Rattle.refute_command.specs.Answers.{AnswersSearch}
use Rattle.evidence_commands.specs.Commands.{AnswersEvidence}
use Rattle.command_runs.specs.CallFiles.{AreContents, statement_of, evidence_of}

-- over the problem of its statement; the bytes are its text of evidence
abbrev pub AnswersOver : Call → List ℕ → Problem → Ending → Type 0
AnswersOver (Prove p) evidence = AnswersClaims report_of (asked_by p)
AnswersOver (Refute p) evidence = AnswersSearch p.seed
AnswersOver (Bench b) evidence = AnswersClaims heads_of asked_by_bench
AnswersOver (Evidence command p) evidence = AnswersEvidence command evidence

-- a call has no answer over more or fewer contents than it has files
abbrev pub Answers : Call → List (List ℕ) → Ending → Type 0
Answers call contents ending = AreContents call contents × OverStatement (statement_of call contents) (AnswersOver call (evidence_of contents)) ending
