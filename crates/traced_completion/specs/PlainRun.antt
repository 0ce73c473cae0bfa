-- The plain run: rounds, one after another, on plain lists.
use Rattle.std.specs.Prelude.{◌≡◌, ℕ, zero, suc, ◌-◌, min, List, [], ◌∷◌, ◌++◌, map, length, take, Bool, true, false, nat_le, Option, Some}
use Rattle.std.specs.Prelude.{None, Result, Ok, Err}
use Rattle.definitions.specs.Poly.{Term}
use Rattle.word_orders.specs.Admissible.{Compare}
use Rattle.word_orders.specs.Specified.{asked_cmp}
use Rattle.traced_rows.specs.declared.Made.{Made}
use Rattle.cofactor_trace.specs.declared.halt.Cause.{Cause}
use Rattle.cofactor_trace.specs.declared.halt.Cause.TheVariants as cause
use Rattle.cofactor_trace.specs.declared.halt.Place.TheVariants as place
use Rattle.cofactor_trace.specs.declared.halt.Halt.{Halt}
use Rattle.rule_reduce.specs.declared.rule.Rule.{Rule}
use Rattle.rule_reduce.specs.declared.fault.ReduceFault.{ReduceFault}
use Rattle.rule_reduce.specs.declared.fault.ReduceFault.TheVariants as fault
use Rattle.ambiguities.specs.declared.ambiguity.Ambiguity.{Ambiguity}
use Rattle.adjoint_rules.specs.declared.problem.Problem.{Problem}
use Rattle.adjoint_rules.specs.Problem.{polynomials}
use Rattle.adjoint_rules.specs.Parts.{units_in}
use Rattle.traced_completion.specs.Limits.{round_limit}
use Rattle.traced_completion.specs.declared.budget.Budget.{Budget}
use Rattle.ambiguities.specs.declared.waiting.Waiting.{Waiting}
use Rattle.traced_completion.specs.UnitsFirst.{units_first}
use Rattle.traced_completion.specs.Results.{each_in_turn}
use Rattle.rule_making.specs.Making.{Recorded}
use Rattle.traced_completion.specs.Works.{generator_work, first_of, InTurn, InTwoPasses}
use Rattle.traced_completion.specs.Pending.{AreAllPending, ambiguities_of}

-- The parameters of a run: the order of words, the generators, their numbers in the order of round 0, and the budget.
pub record Setting : Type 0 where
  pub compare : Compare
  pub generators : List (List Term)
  pub in_turn : List ℕ
  pub budget : Budget

-- the rules, how each was made, and the ambiguities that were treated
pub record RunState : Type 0 where
  pub rules : List Rule
  pub made : List Made
  pub treated : List Ambiguity

-- the outcome of a round
pub data Outcome : Type 0 where
  went : RunState → Outcome
  closed : Outcome
  stopped : Halt → Outcome

-- the cause of a fault; want of memory has none
abbrev pub IsCauseOf : ReduceFault → Cause → Type 0
IsCauseOf (fault.Steps limit) c = c ≡ cause.Steps limit
IsCauseOf (fault.Overflow o) c = c ≡ cause.Overflow o
IsCauseOf (fault.Size s) c = c ≡ cause.Size s.letters
IsCauseOf (fault.Memory e) c = ⊥

-- the round is given up, with the cause of its fault
pub record IsGivenUp (number : ℕ) (least : Option (List ℕ)) (fault : ReduceFault) (outcome : Outcome) : Type 0 where
  pub reason : Cause
  pub reason_of : IsCauseOf fault reason
  pub stops : outcome ≡ stopped (record { cause = reason; place = place.Round number; least = least })

-- The round was completed, or is given up with its fault.
abbrev pub Ends : ℕ → Option (List ℕ) → List Ambiguity → Result Recorded ReduceFault → Outcome → Type 0
Ends number least treated (Ok r) outcome = outcome ≡ went (record { rules = r.rules; made = r.made; treated = treated })
Ends number least treated (Err e) outcome = IsGivenUp number least e outcome

-- round 0
abbrev pub start : RunState
start = record { rules = []; made = []; treated = [] }

abbrev pub recorded : RunState → Recorded
recorded s = record { rules = s.rules; made = s.made }

-- Each generator in turn is reduced by the rules so far, and the rest becomes a rule.
pub record IsRoundZero (setting : Setting) (s : RunState) (outcome : Outcome) : Type 0 where
  pub result : Result Recorded ReduceFault
  pub generators : InTurn setting.compare (map (generator_work setting.compare setting.budget.steps setting.generators) setting.in_turn) (recorded s) result
  pub ends : Ends 0 None s.treated result outcome

-- the least of the limit of a round, the pairs left and the number pending
abbrev pub taken_count : Budget → RunState → List Waiting → ℕ
taken_count budget s pending = min round_limit (min (budget.pairs - length s.treated) (length pending))

-- The S-polynomials of these ambiguities with their first reductions by the rules from before, then the second reductions;
-- then all of them are treated.
pub record IsTreated (setting : Setting) (number : ℕ) (s : RunState) (least : List ℕ) (taken : List Ambiguity) (outcome : Outcome) : Type 0 where
  pub result : Result Recorded ReduceFault
  pub passes : InTwoPasses setting.compare setting.budget.steps (each_in_turn (first_of setting.compare setting.budget.steps s.rules) taken) (recorded s) result
  pub ends : Ends number (Some least) (s.treated ++ taken) result outcome

-- with the least overlap word that is pending, and whether as many ambiguities were treated as the budget of pairs allows
abbrev pub TreatsFirst : Setting → ℕ → RunState → List ℕ → List Waiting → Bool → Outcome → Type 0
TreatsFirst setting number s least pending true outcome =
    outcome ≡ stopped (record { cause = cause.Pairs (length s.treated); place = place.Run; least = Some least })
TreatsFirst setting number s least pending false outcome =
    IsTreated setting number s least (ambiguities_of (take (taken_count setting.budget s pending) pending)) outcome

-- Where nothing is pending, the run is closed.
abbrev pub TreatsPending : Setting → ℕ → RunState → List Waiting → Outcome → Type 0
TreatsPending setting number s [] outcome = outcome ≡ closed
TreatsPending setting number s (w ∷ ws) outcome = TreatsFirst setting number s w.word (w ∷ ws) (nat_le setting.budget.pairs (length s.treated)) outcome

pub record IsLaterRound (setting : Setting) (number : ℕ) (s : RunState) (outcome : Outcome) : Type 0 where
  pub pending : List Waiting
  pub all_pending : AreAllPending setting.compare s.rules s.treated pending
  pub treats : TreatsPending setting number s pending outcome

-- the outcome of the round with this number
abbrev pub IsRound : Setting → ℕ → RunState → Outcome → Type 0
IsRound setting zero s outcome = IsRoundZero setting s outcome
IsRound setting (suc n) s outcome = IsLaterRound setting (suc n) s outcome

-- the state after the round with this number, if it was completed
pub record IsAfter (setting : Setting) (number : ℕ) (Before : RunState → Type 0) (s : RunState) : Type 0 where
  pub before : RunState
  pub is_before : Before before
  pub round : IsRound setting number before (went s)

-- the state after this many completed rounds
abbrev pub IsRunState : Setting → ℕ → RunState → Type 0
IsRunState setting zero s = s ≡ start
IsRunState setting (suc n) s = IsAfter setting n (IsRunState setting n) s

-- of a problem
abbrev pub setting_of : Problem → Budget → Setting
setting_of problem budget = record {
  compare = asked_cmp problem.parts.order;
  generators = polynomials problem.generators;
  in_turn = units_first (length (units_in problem.parts)) (length problem.generators);
  budget = budget;
}
