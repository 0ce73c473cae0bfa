-- The answer to the evidence of a derived claim: it is accepted, or its sum exceeds a limit.
use Rattle.std.specs.Prelude.{◌⊎◌, ⊤, ℕ, List, length}
use Rattle.std.specs.List.{All}
use Rattle.traced_rows.specs.declared.evidence.Evidence.{Evidence}
use Rattle.traced_rows.specs.declared.evidence.Format.{Format}
use Rattle.cofactor_checker.specs.declared.refusal.Refusal.{Refusal}
use Rattle.cofactor_checker.specs.Rows.{IsNumberUpTo}
use Rattle.cofactor_checker.specs.declared.refusal.Refusal.TheVariants as refusal
use Rattle.cofactor_checker.specs.Acceptance.{IsMemory}
use Rattle.cofactor_checker.specs.Evidence.{AcceptsEvidence, RefusesEvidence}
use Rattle.adjoint_rules.specs.declared.problem.Problem.{Problem}
use Rattle.adjoint_rules.specs.Problem.{polynomials}
use Rattle.adjoint_rules.specs.Claims.{claim_at, claim_numbers}
use Rattle.traced_completion.specs.declared.budget.Budget.{Budget}
use Rattle.traced_completion.specs.PlainRun.{setting_of}
use Rattle.claim_decider.specs.declared.outcome.Outcome.{Outcome}
use Rattle.claim_decider.specs.declared.outcome.Outcome.TheVariants as outcome
use Rattle.claim_decider.specs.Outcomes.{IsOutcomeOf}
use Rattle.claim_decider.specs.Decided.{AreOutcomesOf}
use Rattle.report_readback.specs.ReadBack.{derived_in}

-- a product or a sum overflows, a sum has too many terms, or the lemmas have too many together
abbrev pub PassesLimit : Refusal → Type 0
PassesLimit (refusal.Overflow row overflow) = ⊤
PassesLimit (refusal.Size row) = ⊤
PassesLimit (refusal.Kept row) = ⊤
PassesLimit other = ⊥

-- answers
abbrev pub AcceptsOf : Problem → Evidence → Type 0
AcceptsOf problem e = AcceptsEvidence (polynomials problem.parts.claims) (polynomials problem.generators) e

abbrev pub RefusesOf : Problem → Evidence → Refusal → Type 0
RefusesOf problem e r = RefusesEvidence (polynomials problem.parts.claims) (polynomials problem.generators) e r

-- The evidence is accepted, or it is refused because a limit is exceeded; it is refused for nothing else but want of memory.
pub record IsAnsweredWithinLimits (problem : Problem) (e : Evidence) : Type 0 where
  pub judged : AcceptsOf problem e ⊎ ((r : Refusal) × RefusesOf problem e r × PassesLimit r)
  pub no_other : (r : Refusal) → RefusesOf problem e r → PassesLimit r ⊎ IsMemory r

-- This holds for the evidence of each claim that is derived.
abbrev pub DerivedEvidenceIsAnswered : Type 0
DerivedEvidenceIsAnswered = (problem : Problem) (budget : Budget) (form : Format) (number : ℕ) (e : Evidence)
    → IsNumberUpTo (length problem.parts.claims) number
    → IsOutcomeOf (setting_of problem budget) form number (claim_at problem number) (outcome.Derived e) → IsAnsweredWithinLimits problem e

-- And for all evidence that is read from a report.
abbrev pub ReportedEvidenceIsAnswered : Type 0
ReportedEvidenceIsAnswered = (problem : Problem) (budget : Budget) (form : Format) (outcomes : List Outcome)
    → AreOutcomesOf (setting_of problem budget) form problem (claim_numbers problem) outcomes → All (IsAnsweredWithinLimits problem) (derived_in outcomes)
