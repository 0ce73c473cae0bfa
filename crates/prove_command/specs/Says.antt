-- What the report of `prove` says, and the head lines of `bench`.
use Rattle.std.specs.Prelude.{ℕ, ⊤, List}
use Rattle.std.specs.List.{AllZip}
use Rattle.definitions.specs.Category.{Structure}
use Rattle.nc_polynomial.specs.declared.poly.Poly.{Poly}
use Rattle.adjoint_rules.specs.declared.problem.Problem.{Problem}
use Rattle.adjoint_rules.specs.Claims.{claim_numbers}
use Rattle.model_checker.specs.RefutedMeans.{RefutedMeans}
use Rattle.traced_completion.specs.declared.budget.Budget.{Budget}
use Rattle.report_text.specs.declared.verdict.Verdict.{Verdict}
use Rattle.report_text.specs.declared.verdict.Verdict.TheVariants.{Proved, NotDerivable, Refuted, Undecided, NotRefuted}
use Rattle.report_text.specs.Report.{report_of}
use Rattle.report_readback.specs.OwnEvidence.{IsItsOwnEvidence}
use Rattle.outcome_laws.specs.Halts.{Follows, HaltMeans}
use Rattle.cofactor_checker.specs.ProvedMeans.{ProvedMeans}
use Rattle.command_shape.specs.Ending.{Ending}
use Rattle.stated_problem.specs.Statement.{OverStatement}
use Rattle.prove_command.specs.declared.prove.Asked.{Asked}
use Rattle.prove_command.specs.Answers.{Print, AnswersClaims}

-- What the verdict on the claim with this number means: proved, with its denominator, means so in each category; not derivable means that no
-- positive multiple of the claim is a combination of the generators; refuted means that the claim isn't zero in the model; undecided
-- means what its cause, its place and its least word say; not refuted says nothing of the claim.
abbrev pub VerdictMeans : {Object Arrow : Type 0} → Structure Object Arrow → Problem → Budget → ℕ → Verdict → Type 0
VerdictMeans s problem budget number (Proved e) = ProvedMeans s problem number e
VerdictMeans s problem budget number (NotDerivable rest) = Follows problem number → ⊥
VerdictMeans s problem budget number (Refuted m) = RefutedMeans problem number m
VerdictMeans s problem budget number (Undecided halt) = HaltMeans problem budget number halt
VerdictMeans s problem budget number (NotRefuted candidates) = ⊤

-- What is printed over a problem are verdicts, one on each claim in order: they and the last rules are decided by the run, the report and the
-- status are theirs, and each means what it says.
pub record PrintsMeant {Object Arrow : Type 0} (s : Structure Object Arrow) (print : Print) (asked : Asked) (problem : Problem) (ending : Ending) : Type 0 where
  pub answer : AnswersClaims print asked problem ending
  pub each : AllZip (VerdictMeans s problem asked.budget) (claim_numbers problem) answer.verdicts

-- The statement is refused, and the report says so; or it has a problem, over which this is printed.
abbrev pub SaysDecided : {Object Arrow : Type 0} → Structure Object Arrow → Print → Asked → List ℕ → Ending → Type 0
SaysDecided s print asked statement ending = OverStatement statement (PrintsMeant s print asked) ending

-- The report that is printed is its own evidence.
pub record ReportsMeant {Object Arrow : Type 0} (s : Structure Object Arrow) (asked : Asked) (problem : Problem) (ending : Ending) : Type 0 where
  pub prints : PrintsMeant s report_of asked problem ending
  pub own_evidence : IsItsOwnEvidence problem ending.report prints.answer.verdicts

-- The statement is refused, and the report says so; or it has a problem, over which this is reported.
abbrev pub SaysReported : {Object Arrow : Type 0} → Structure Object Arrow → Asked → List ℕ → Ending → Type 0
SaysReported s asked statement ending = OverStatement statement (ReportsMeant s asked) ending
