-- The letters of outcomes and of last rules are letters of the quiver.
use Rattle.std.specs.Prelude.{ℕ, List}
use Rattle.std.specs.List.{All}
use Rattle.nc_polynomial.specs.declared.poly.Poly.{Poly}
use Rattle.quiver.specs.Declarations.{Declaration}
use Rattle.traced_rows.specs.declared.evidence.Format.{Format}
use Rattle.adjoint_rules.specs.declared.problem.Problem.{Problem}
use Rattle.adjoint_rules.specs.Claims.{claim_at}
use Rattle.certificate_text.specs.Written.{IsEvidenceOver}
use Rattle.quiver.specs.Over.{IsPolyOver}
use Rattle.report_text.specs.Report.{IsLeastOver}
use Rattle.traced_completion.specs.declared.budget.Budget.{Budget}
use Rattle.traced_completion.specs.PlainRun.{setting_of}
use Rattle.claim_decider.specs.declared.outcome.Outcome.{Outcome}
use Rattle.claim_decider.specs.declared.outcome.Outcome.TheVariants as outcome
use Rattle.claim_decider.specs.Outcomes.{IsOutcomeOf}
use Rattle.claim_decider.specs.Decided.{AreLastRules}

-- The letters of the evidence, of the rest, or of the least overlap word are letters of the quiver.
abbrev pub IsOutcomeOver : List Declaration → Outcome → Type 0
IsOutcomeOver ds (outcome.Derived e) = IsEvidenceOver ds e
IsOutcomeOver ds (outcome.Closed rest) = IsPolyOver ds rest
IsOutcomeOver ds (outcome.Halted h) = IsLeastOver ds h.least

-- This holds for each outcome of a claim.
abbrev pub OutcomesHaveLetters : Type 0
OutcomesHaveLetters = (problem : Problem) (budget : Budget) (form : Format) (number : ℕ) (o : Outcome)
    → IsOutcomeOf (setting_of problem budget) form number (claim_at problem number) o → IsOutcomeOver problem.parts.quiver o

-- And the letters of the last rules are letters of the quiver.
abbrev pub LastRulesHaveLetters : Type 0
LastRulesHaveLetters = (problem : Problem) (budget : Budget) (form : Format) (numbers : List ℕ) (polys : List Poly)
    → AreLastRules (setting_of problem budget) form problem numbers polys → All (IsPolyOver problem.parts.quiver) polys
