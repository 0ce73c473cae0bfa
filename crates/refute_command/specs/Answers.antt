-- What `refute` answers over the problem of a statement.
use Rattle.std.specs.Prelude.{ℕ, ◌≡◌, List, []}
use Rattle.std.specs.List.{AllZip}
use Rattle.matrix_models.specs.declared.model.Model.{Model}
use Rattle.adjoint_rules.specs.declared.problem.Problem.{Problem}
use Rattle.adjoint_rules.specs.Claims.{claim_numbers}
use Rattle.model_candidates.specs.Candidates.{all_candidate_count, NoneBreaks}
use Rattle.model_search.specs.LeastBreaking.{LeastBreaks}
use Rattle.report_text.specs.declared.verdict.Verdict.{Verdict}
use Rattle.report_text.specs.declared.verdict.Verdict.TheVariants as verdict
use Rattle.report_text.specs.Report.{report_of, status_of}
use Rattle.command_shape.specs.Ending.{Ending}

-- The verdict on the claim with this number: the least candidate that breaks it, or that none of all candidates does.
pub data IsSearchedOn (problem : Problem) (seed claim : ℕ) (v : Verdict) : Type 0 where
  refuted : (m : Model) → LeastBreaks problem claim seed m → v ≡ verdict.Refuted m → IsSearchedOn problem seed claim v
  not_refuted : NoneBreaks problem claim seed → v ≡ verdict.NotRefuted (all_candidate_count problem) → IsSearchedOn problem seed claim v

-- One verdict on each claim, in order, is printed, and the status is theirs. There are no rules.
pub record AnswersSearch (seed : ℕ) (problem : Problem) (ending : Ending) : Type 0 where
  pub verdicts : List Verdict
  pub each : AllZip (IsSearchedOn problem seed) (claim_numbers problem) verdicts
  pub says : ending ≡ record { status = status_of verdicts; report = report_of problem.parts.quiver [] verdicts }
