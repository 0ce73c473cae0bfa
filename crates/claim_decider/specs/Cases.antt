-- Claims before they have their outcomes, and after.
use Rattle.std.specs.Prelude.{◌≡◌, ◌-◌, ◌<◌, ◌≤◌, ℕ, List, map, length, ⊤}
use Rattle.definitions.specs.Poly.{Term}
use Rattle.nc_polynomial.specs.declared.poly.Poly.{Poly}
use Rattle.traced_rows.specs.declared.evidence.Format.{Format}
use Rattle.adjoint_rules.specs.declared.problem.Problem.{Problem}
use Rattle.adjoint_rules.specs.Claims.{claim_at}
use Rattle.traced_completion.specs.declared.completion.Completion.{Completion}
use Rattle.traced_completion.specs.declared.completion.Step.{Step}
use Rattle.traced_completion.specs.declared.completion.Step.TheVariants as step
use Rattle.traced_completion.specs.PlainRun.{Setting, RunState, setting_of}
use Rattle.traced_completion.specs.Completions.{state_of}
use Rattle.claim_decider.specs.declared.outcome.Outcome.{Outcome}
use Rattle.claim_decider.specs.declared.outcome.Outcome.TheVariants as outcome
use Rattle.claim_decider.specs.declared.case.Case.{Case}
use Rattle.claim_decider.specs.declared.case.Standing.{Standing}
use Rattle.claim_decider.specs.declared.case.Standing.TheVariants.{Open, Settled}
use Rattle.claim_decider.specs.Outcomes.{IsLeft, IsDone, IsOpen, GetsOutcome}

-- the number of a claim of the problem
pub record IsNumber (problem : Problem) (number : ℕ) : Type 0 where
  pub least : 1 ≤ number
  pub most : number ≤ length problem.parts.claims

-- and the case is one of them
abbrev pub IsOfProblem : Problem → Case → Type 0
IsOfProblem problem case = IsNumber problem case.number

-- after a completed round there is one
abbrev pub HasRounds : Step → ℕ → Type 0
HasRounds step.Went rounds = 0 < rounds
HasRounds step.Closed rounds = ⊤
HasRounds (step.Stopped halt) rounds = ⊤

-- After a completed round the claim has a rest by the rules, or its outcome.
abbrev pub IsJudged : Setting → Format → ℕ → List Term → ℕ → RunState → Standing → Type 0
IsJudged setting form number claim round s (Open rest) = IsLeft setting s.rules claim rest.terms
IsJudged setting form number claim round s (Settled o) = IsDone setting form number round s claim o

-- An open claim with this rest is judged after a completed round, closed where the run is, and halted where it stops.
abbrev pub OpenFollows : Setting → Format → ℕ → List Term → ℕ → RunState → Poly → Step → Standing → Type 0
OpenFollows setting form number claim round s rest step.Went new = IsJudged setting form number claim round s new
OpenFollows setting form number claim round s rest step.Closed new = new ≡ Settled (outcome.Closed rest)
OpenFollows setting form number claim round s rest (step.Stopped halt) new = new ≡ Settled (outcome.Halted halt)

-- A claim that has its outcome keeps it.
abbrev pub StandingFollows : Setting → Format → ℕ → List Term → ℕ → RunState → Step → Standing → Standing → Type 0
StandingFollows setting form number claim round s st (Open rest) new = OpenFollows setting form number claim round s rest st new
StandingFollows setting form number claim round s st (Settled o) new = new ≡ Settled o

-- The case after a step of the completion.
pub record Follows (form : Format) (problem : Problem) (c : Completion) (st : Step) (old new : Case) : Type 0 where
  pub same : new.number ≡ old.number
  pub standing : StandingFollows (setting_of problem c.budget) form old.number (claim_at problem old.number) (c.rounds - 1)
      (state_of c) st old.standing new.standing

-- the claim has its outcome now
pub record HasGot (setting : Setting) (form : Format) (number : ℕ) (claim : List Term) (most : ℕ) (o : Outcome) : Type 0 where
  pub rounds : ℕ
  pub state : RunState
  pub gets : GetsOutcome setting form number claim rounds state o
  pub early : rounds ≤ most

-- the claim is open, with this rest
pub record IsOpenWith (setting : Setting) (claim : List Term) (rounds : ℕ) (s : RunState) (rest : List Term) : Type 0 where
  pub open_yet : IsOpen setting claim rounds s
  pub left : IsLeft setting s.rules claim rest

abbrev pub Stands : Setting → Format → ℕ → List Term → ℕ → RunState → Standing → Type 0
Stands setting form number claim rounds s (Open rest) = IsOpenWith setting claim rounds s rest.terms
Stands setting form number claim rounds s (Settled o) = HasGot setting form number claim rounds o

abbrev pub IsCase : Setting → Format → Problem → ℕ → RunState → Case → Type 0
IsCase setting form problem rounds s case = Stands setting form case.number (claim_at problem case.number) rounds s case.standing

-- the claim has its outcome
abbrev pub HasOutcome : Standing → Type 0
HasOutcome (Open rest) = ⊥
HasOutcome (Settled o) = ⊤

abbrev pub IsSettled : Case → Type 0
IsSettled case = HasOutcome case.standing

-- which is this
abbrev pub Gives : Case → Outcome → Type 0
Gives case o = case.standing ≡ Settled o

-- the numbers of the claims
abbrev pub case_numbers : List Case → List ℕ
case_numbers cases = map (λ c. c.number) cases
