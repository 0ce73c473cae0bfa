-- The law that a claim has one outcome.
use Rattle.std.specs.Prelude.{◌≡◌, ℕ, List}
use Rattle.definitions.specs.Poly.{Term}
use Rattle.nc_polynomial.specs.declared.poly.Poly.{Poly}
use Rattle.word_orders.specs.Admissible.{IsAdmissible}
use Rattle.traced_rows.specs.declared.evidence.Format.{Format}
use Rattle.adjoint_rules.specs.declared.problem.Problem.{Problem}
use Rattle.traced_completion.specs.PlainRun.{Setting}
use Rattle.claim_decider.specs.declared.outcome.Outcome.{Outcome}
use Rattle.claim_decider.specs.Outcomes.{IsOutcomeOf}
use Rattle.claim_decider.specs.Decided.{AreLastRules}

-- In an admissible order a claim has one outcome in each format.
abbrev pub OutcomesAreUnique : Type 0
OutcomesAreUnique = (letters : ℕ) (rank : List ℕ → List ℕ) (setting : Setting) (form : Format) (number : ℕ) (claim : List Term) (one other : Outcome)
    → IsAdmissible letters setting.compare rank → IsOutcomeOf setting form number claim one → IsOutcomeOf setting form number claim other → one ≡ other

-- Claims have one list of last rules.
abbrev pub LastRulesAreUnique : Type 0
LastRulesAreUnique = (letters : ℕ) (rank : List ℕ → List ℕ) (setting : Setting) (form : Format) (problem : Problem) (numbers : List ℕ) (one other : List Poly)
    → IsAdmissible letters setting.compare rank → AreLastRules setting form problem numbers one → AreLastRules setting form problem numbers other → one ≡ other
