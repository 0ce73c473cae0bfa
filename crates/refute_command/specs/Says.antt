-- What the report of `refute` says.
use Rattle.std.specs.Prelude.{ℕ, ⊤, List}
use Rattle.std.specs.List.{AllZip}
use Rattle.adjoint_rules.specs.declared.problem.Problem.{Problem}
use Rattle.adjoint_rules.specs.Claims.{claim_numbers}
use Rattle.model_checker.specs.RefutedMeans.{RefutedMeans}
use Rattle.report_text.specs.declared.verdict.Verdict.{Verdict}
use Rattle.report_text.specs.declared.verdict.Verdict.TheVariants.{Proved, NotDerivable, Refuted, Undecided, NotRefuted}
use Rattle.report_readback.specs.OwnEvidence.{IsItsOwnEvidence}
use Rattle.command_shape.specs.Ending.{Ending}
use Rattle.stated_problem.specs.Statement.{OverStatement}
use Rattle.refute_command.specs.Answers.{AnswersSearch}

-- What the verdict on the claim with this number means: refuted means that the claim isn't zero in the model; not refuted says nothing of it; there are no others.
abbrev pub SearchMeans : Problem → ℕ → Verdict → Type 0
SearchMeans problem number (Refuted m) = RefutedMeans problem number m
SearchMeans problem number (NotRefuted candidates) = ⊤
SearchMeans problem number (Proved e) = ⊥
SearchMeans problem number (NotDerivable rest) = ⊥
SearchMeans problem number (Undecided halt) = ⊥

-- What is printed over a problem are verdicts, one on each claim in order: they are what the search finds, the report and the status are
-- theirs, and each means what it says. There are no rules. The report is its own evidence.
pub record PrintsSearched (seed : ℕ) (problem : Problem) (ending : Ending) : Type 0 where
  pub answer : AnswersSearch seed problem ending
  pub each : AllZip (SearchMeans problem) (claim_numbers problem) answer.verdicts
  pub own_evidence : IsItsOwnEvidence problem ending.report answer.verdicts

-- The statement is refused, and the report says so; or it has a problem, over which this is printed.
abbrev pub SaysSearched : ℕ → List ℕ → Ending → Type 0
SaysSearched seed statement ending = OverStatement statement (PrintsSearched seed) ending
