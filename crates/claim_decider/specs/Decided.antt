-- The outcomes of several claims, and the rules that are returned with them.
use Rattle.std.specs.Prelude.{◌≡◌, ◌≤◌, ◌⊎◌, ℕ, List, map, Contains}
use Rattle.std.specs.List.{All, AllZip}
use Rattle.nc_polynomial.specs.declared.poly.Poly.{Poly}
use Rattle.traced_rows.specs.declared.evidence.Format.{Format}
use Rattle.rule_reduce.specs.declared.rule.Rule.{Rule}
use Rattle.adjoint_rules.specs.declared.problem.Problem.{Problem}
use Rattle.adjoint_rules.specs.Claims.{claim_at}
use Rattle.traced_completion.specs.PlainRun.{Setting, RunState, IsRunState}
use Rattle.claim_decider.specs.declared.outcome.Outcome.{Outcome}
use Rattle.claim_decider.specs.Outcomes.{GetsOutcome, IsOutcomeOf}

-- the outcomes of the claims with these numbers, in their order
abbrev pub AreOutcomesOf : Setting → Format → Problem → List ℕ → List Outcome → Type 0
AreOutcomesOf setting form problem numbers outcomes = AllZip (λ n o. IsOutcomeOf setting form n (claim_at problem n) o) numbers outcomes

-- The claim gets its outcome after this many completed rounds.
pub record GetsOutcomeAt (setting : Setting) (form : Format) (problem : Problem) (rounds : ℕ) (number : ℕ) : Type 0 where
  pub state : RunState
  pub outcome : Outcome
  pub gets : GetsOutcome setting form number (claim_at problem number) rounds state outcome

-- or earlier
pub record GetsOutcomeBy (setting : Setting) (form : Format) (problem : Problem) (most : ℕ) (number : ℕ) : Type 0 where
  pub rounds : ℕ
  pub gets : GetsOutcomeAt setting form problem rounds number
  pub early : rounds ≤ most

-- one of the claims gets its outcome after this many completed rounds
pub record OneGetsOutcomeAt (setting : Setting) (form : Format) (problem : Problem) (numbers : List ℕ) (rounds : ℕ) : Type 0 where
  pub number : ℕ
  pub among : Contains numbers number
  pub gets : GetsOutcomeAt setting form problem rounds number

-- The last of the claims gets its outcome after this many completed rounds; no claims need none.
pub record IsLastRound (setting : Setting) (form : Format) (problem : Problem) (numbers : List ℕ) (rounds : ℕ) : Type 0 where
  pub enough : All (GetsOutcomeBy setting form problem rounds) numbers
  pub needed : (rounds ≡ 0) ⊎ OneGetsOutcomeAt setting form problem numbers rounds

abbrev pub polynomials_in : List Rule → List Poly
polynomials_in rules = map (λ g. g.poly) rules

-- The polynomials are the rules of the last round that was completed before the last of the claims had its outcome, and
-- none where there was none.
pub record AreLastRules (setting : Setting) (form : Format) (problem : Problem) (numbers : List ℕ) (polys : List Poly) : Type 0 where
  pub rounds : ℕ
  pub state : RunState
  pub last : IsLastRound setting form problem numbers rounds
  pub run : IsRunState setting rounds state
  pub are : polys ≡ polynomials_in state.rules
