-- A report as its own evidence.
use Rattle.std.specs.Prelude.{ℕ, List}
use Rattle.std.specs.List.{All}
use Rattle.adjoint_rules.specs.declared.problem.Problem.{Problem}
use Rattle.model_checker.specs.Models.{Refutes}
use Rattle.report_text.specs.declared.verdict.Verdict.{Verdict}
use Rattle.report_readback.specs.ReadBack.{IsReadAs, proved_in}
use Rattle.report_readback.specs.ModelsReadBack.{IsReadAsModels, refuted_in}
use Rattle.report_readback.specs.Answered.{IsAnsweredWithinLimits}

-- The report of these verdicts has the evidence for them.
pub record IsItsOwnEvidence (problem : Problem) (report : List ℕ) (verdicts : List Verdict) : Type 0 where
  -- As evidence text it is read as the evidence of the claims that are proved, in their order,
  pub evidence : IsReadAs problem.parts.quiver report (proved_in verdicts)
  -- each of which is accepted, or refused because its sum exceeds a limit;
  pub answered : All (IsAnsweredWithinLimits problem) (proved_in verdicts)
  -- as text of models it is read as the models of the claims that are refuted, in their order,
  pub models : IsReadAsModels problem.parts.quiver report (refuted_in verdicts)
  -- each of which refutes the claim that it names.
  pub refute : All (Refutes problem) (refuted_in verdicts)
