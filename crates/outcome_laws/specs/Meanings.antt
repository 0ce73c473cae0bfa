-- What an outcome of a claim means.
use Rattle.std.specs.Prelude.{◌≡◌, ℕ, List, Some}
use Rattle.nc_polynomial.specs.declared.poly.Poly.{Poly}
use Rattle.traced_rows.specs.declared.evidence.Evidence.{Evidence}
use Rattle.traced_rows.specs.declared.evidence.Format.{Format}
use Rattle.cofactor_trace.specs.declared.halt.Place.TheVariants as place
use Rattle.cofactor_trace.specs.declared.halt.Halt.{Halt}
use Rattle.cofactor_checker.specs.ProvedMeans.{EvidenceAddsUp}
use Rattle.adjoint_rules.specs.declared.problem.Problem.{Problem}
use Rattle.adjoint_rules.specs.Claims.{claim_at}
use Rattle.traced_completion.specs.declared.budget.Budget.{Budget}
use Rattle.traced_completion.specs.PlainRun.{setting_of}
use Rattle.claim_decider.specs.declared.outcome.Outcome.{Outcome}
use Rattle.claim_decider.specs.declared.outcome.Outcome.TheVariants as outcome
use Rattle.claim_decider.specs.Outcomes.{IsOutcomeOf}
use Rattle.outcome_laws.specs.Halts.{Follows, FollowsBelow, HaltMeans}

-- A claim that is derived has evidence that adds up, one that is closed does not follow, and for one that is halted the meaning of its halt holds.
abbrev pub OutcomeMeans : Problem → Budget → ℕ → Outcome → Type 0
OutcomeMeans problem budget number (outcome.Derived e) = EvidenceAddsUp problem number e
OutcomeMeans problem budget number (outcome.Closed rest) = Follows problem number → ⊥
OutcomeMeans problem budget number (outcome.Halted h) = HaltMeans problem budget number h

-- The laws have one premise, that this is the outcome of the problem's claim with this number. `decide_all` and `decide` ensure it of
-- each outcome that they return, in `outcomes`. That generators and claims are typed follows from the fields of a problem.
abbrev pub IsOutcomeAt : Problem → Budget → Format → ℕ → Outcome → Type 0
IsOutcomeAt problem budget form number o = IsOutcomeOf (setting_of problem budget) form number (claim_at problem number) o

-- A claim that is derived has evidence that adds up.
abbrev pub DerivedClaimsAddUp : Type 0
DerivedClaimsAddUp = (problem : Problem) (budget : Budget) (form : Format) (number : ℕ) (e : Evidence)
    → IsOutcomeAt problem budget form number (outcome.Derived e) → EvidenceAddsUp problem number e

-- No positive multiple of a claim that is closed is a combination of the generators.
abbrev pub ClosedClaimsAreOutside : Type 0
ClosedClaimsAreOutside = (problem : Problem) (budget : Budget) (form : Format) (number : ℕ) (rest : Poly)
    → IsOutcomeAt problem budget form number (outcome.Closed rest) → Follows problem number → ⊥

-- A claim that is halted with a least pending word is no combination of the generators below that word.
abbrev pub LeastWordsBoundDerivations : Type 0
LeastWordsBoundDerivations = (problem : Problem) (budget : Budget) (form : Format) (number : ℕ) (h : Halt) (word : List ℕ)
    → IsOutcomeAt problem budget form number (outcome.Halted h) → h.least ≡ Some word → FollowsBelow problem word number → ⊥

-- A claim that is halted in making its certificate follows from the generators.
abbrev pub HaltedCertificatesAreInside : Type 0
HaltedCertificatesAreInside = (problem : Problem) (budget : Budget) (form : Format) (number : ℕ) (h : Halt) (round : ℕ)
    → IsOutcomeAt problem budget form number (outcome.Halted h) → h.place ≡ place.Certificate round → Follows problem number

-- Each outcome means what it says, for each problem, each budget, each format and each number.
abbrev pub OutcomesMeanWhatTheySay : Type 0
OutcomesMeanWhatTheySay = (problem : Problem) (budget : Budget) (form : Format) (number : ℕ) (o : Outcome)
    → IsOutcomeAt problem budget form number o → OutcomeMeans problem budget number o
