-- Each problem, budget and format has the runs and outcomes that are defined. Want of memory is no part of the definitions.
use Rattle.std.specs.Prelude.{◌≤◌, ℕ, suc, List}
use Rattle.definitions.specs.Poly.{Term}
use Rattle.nc_polynomial.specs.declared.poly.Poly.{Poly}
use Rattle.traced_rows.specs.declared.evidence.Format.{Format}
use Rattle.adjoint_rules.specs.declared.problem.Problem.{Problem}
use Rattle.adjoint_rules.specs.Claims.{claim_at, claim_numbers}
use Rattle.traced_completion.specs.declared.budget.Budget.{Budget}
use Rattle.traced_completion.specs.PlainRun.{Setting, RunState, Outcome as RoundOutcome, setting_of, IsRound}
use Rattle.claim_decider.specs.declared.outcome.Outcome.{Outcome}
use Rattle.claim_decider.specs.Outcomes.{IsOutcomeOf}
use Rattle.claim_decider.specs.Decided.{AreOutcomesOf, AreLastRules}

-- There is an outcome of the round with this number from this state.
pub record HasRound (setting : Setting) (number : ℕ) (s : RunState) : Type 0 where
  pub outcome : RoundOutcome
  pub is : IsRound setting number s outcome

-- Each round has an outcome, from any state: it is completed, or the run is closed, or it stops with a cause.
abbrev pub EachStateHasARound : Type 0
EachStateHasARound = (problem : Problem) (budget : Budget) (number : ℕ) (s : RunState) → HasRound (setting_of problem budget) number s

-- There is an outcome of the claim with this number, after at most one more completed round than the budget has pairs.
pub record HasOutcome (setting : Setting) (form : Format) (number : ℕ) (claim : List Term) : Type 0 where
  pub outcome : Outcome
  pub is : IsOutcomeOf setting form number claim outcome
  pub few_rounds : is.rounds ≤ suc setting.budget.pairs

-- Each claim has an outcome: it is derived, or halted, or closed.
abbrev pub EachClaimHasAnOutcome : Type 0
EachClaimHasAnOutcome = (problem : Problem) (budget : Budget) (form : Format) (number : ℕ)
    → HasOutcome (setting_of problem budget) form number (claim_at problem number)

-- There are outcomes of all claims of the problem, and rules that are returned with them.
pub record HasOutcomes (setting : Setting) (form : Format) (problem : Problem) : Type 0 where
  pub outcomes : List Outcome
  pub rules : List Poly
  pub are_outcomes : AreOutcomesOf setting form problem (claim_numbers problem) outcomes
  pub are_rules : AreLastRules setting form problem (claim_numbers problem) rules

-- Each problem has them.
abbrev pub EachProblemHasOutcomes : Type 0
EachProblemHasOutcomes = (problem : Problem) (budget : Budget) (form : Format) → HasOutcomes (setting_of problem budget) form problem
