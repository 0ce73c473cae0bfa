-- A completion as the state of the plain run.
use Rattle.std.specs.Prelude.{◌≡◌, ◌≤◌, ℕ, suc, ◌+◌, List, length, Option, ⊤}
use Rattle.std.specs.List.{All}
use Rattle.word_orders.specs.Specified.{asked_cmp, made_cmp, letters_of}
use Rattle.quiver.specs.Declarations.{letter_count}
use Rattle.cofactor_trace.specs.declared.halt.Cause.{Cause}
use Rattle.cofactor_trace.specs.declared.halt.Place.TheVariants as place
use Rattle.rule_reduce.specs.declared.fault.ReduceFault.{ReduceFault}
use Rattle.ambiguities.specs.Ambiguities.{IsAmbiguity}
use Rattle.adjoint_rules.specs.declared.problem.Problem.{Problem}
use Rattle.traced_completion.specs.Limits.{budget_limit}
use Rattle.traced_completion.specs.declared.completion.Completion.{Completion}
use Rattle.traced_completion.specs.declared.completion.Step.{Step}
use Rattle.traced_completion.specs.declared.completion.Step.TheVariants.{Went, Closed, Stopped}
use Rattle.word_orders.specs.declared.any.AnyOrder.{AnyOrder}
use Rattle.ambiguities.specs.declared.waiting.Waiting.{Waiting}
use Rattle.traced_completion.specs.declared.budget.Budget.{Budget}
use Rattle.traced_completion.specs.Pending.{AreAllPending}
use Rattle.traced_completion.specs.PlainRun.{RunState, Outcome, went, closed, stopped, IsCauseOf, recorded, IsRunState, setting_of}
use Rattle.rule_making.specs.Records.{HasRecords}

-- both numbers are from 1 to the limit
pub record IsBudget (b : Budget) : Type 0 where
  pub some_pairs : 1 ≤ b.pairs
  pub most_pairs : b.pairs ≤ budget_limit
  pub some_steps : 1 ≤ b.steps
  pub most_steps : b.steps ≤ budget_limit

abbrev pub state_of : Completion → RunState
state_of c = record { rules = c.rules.rules; made = c.made; treated = c.treated }

-- the outcome of a step, where the completion after it has this state
abbrev pub outcome_of : Step → RunState → Outcome
outcome_of Went s = went s
outcome_of Closed s = closed
outcome_of (Stopped halt) s = stopped halt

-- the number of whole rounds after a step
abbrev pub rounds_after : Step → ℕ → ℕ
rounds_after Went n = suc n
rounds_after Closed n = n
rounds_after (Stopped halt) n = n

-- All fields are the same.
pub record IsUnchanged (old new : Completion) : Type 0 where
  pub budget : new.budget ≡ old.budget
  pub rounds : new.rounds ≡ old.rounds
  pub order : new.rules.order ≡ old.rules.order
  pub rules : new.rules.rules ≡ old.rules.rules
  pub made : new.made ≡ old.made
  pub treated : new.treated ≡ old.treated
  pub waiting : new.waiting ≡ old.waiting
  pub is_light : new.is_light ≡ old.is_light

-- all fields are the same, unless the round was completed
abbrev pub IsUnchangedAfter : Step → Completion → Completion → Type 0
IsUnchangedAfter Went old new = ⊤
IsUnchangedAfter Closed old new = IsUnchanged old new
IsUnchangedAfter (Stopped halt) old new = IsUnchanged old new

-- the step that gives a round up, with the cause of its fault
pub record IsGivingUp (fault : ReduceFault) (number : ℕ) (least : Option (List ℕ)) (step : Step) : Type 0 where
  pub reason : Cause
  pub reason_of : IsCauseOf fault reason
  pub stops : step ≡ Stopped (record { cause = reason; place = place.Round number; least = least })

-- After this many rounds of the problem with this budget the plain run has this state. The treated ambiguities are ones of its
-- rules, all others are waiting, and each rule has a record. The order compares words as the problem's does.
pub record IsRunOf (problem : Problem) (budget : Budget) (order : AnyOrder) (rounds : ℕ) (s : RunState) (waiting : List Waiting) : Type 0 where
  pub compares : (u v : List ℕ) → made_cmp order u v ≡ asked_cmp problem.parts.order u v
  pub letters : letter_count problem.parts.quiver ≤ letters_of order
  pub in_budget : IsBudget budget
  pub run : IsRunState (setting_of problem budget) rounds s
  pub treated : All (IsAmbiguity s.rules) s.treated
  pub all_waiting : AreAllPending (asked_cmp problem.parts.order) s.rules s.treated waiting
  pub records : HasRecords (recorded s)
  pub few_treated : length s.treated ≤ budget.pairs
  pub few_rules : length s.rules ≤ length problem.generators + length s.treated
  pub few_rounds : rounds ≤ suc (length s.treated)

-- The completion is the plain run of the problem: after as many rounds as it has made, it has the run's state.
abbrev pub IsCompletionOf : Problem → Completion → Type 0
IsCompletionOf problem c = IsRunOf problem c.budget c.rules.order c.rounds (state_of c) c.waiting
