-- What holds of each plain run.
use Rattle.std.specs.Prelude.{◌≡◌, ◌<◌, ◌≤◌, ◌+◌, ℕ, suc, List, length}
use Rattle.std.specs.List.{All}
use Rattle.definitions.specs.Poly.{Term}
use Rattle.word_core.specs.Letters.{IsOver}
use Rattle.rule_reduce.specs.RuleLists.{IsRule}
use Rattle.word_orders.specs.Admissible.{IsAdmissible}
use Rattle.traced_completion.specs.PlainRun.{Setting, RunState, Outcome, IsRound, IsRunState}

-- In an admissible order a round has one outcome.
abbrev pub RoundsAreUnique : Type 0
RoundsAreUnique = (letters : ℕ) (rank : List ℕ → List ℕ) (setting : Setting) (number : ℕ) (s : RunState) (one other : Outcome)
    → IsAdmissible letters setting.compare rank → IsRound setting number s one → IsRound setting number s other → one ≡ other

-- A run has one state after each number of rounds.
abbrev pub StatesAreUnique : Type 0
StatesAreUnique = (letters : ℕ) (rank : List ℕ → List ℕ) (setting : Setting) (rounds : ℕ) (one other : RunState)
    → IsAdmissible letters setting.compare rank → IsRunState setting rounds one → IsRunState setting rounds other → one ≡ other

-- no word of the polynomial is empty, and all letters are below a number
pub record HasWords (letters : ℕ) (p : List Term) : Type 0 where
  pub nonempty : All (λ t. 0 < length t.1) p
  pub over : All (λ t. IsOver letters t.1) p

-- By generators with such words, each state of a run has rules.
abbrev pub StatesHaveRules : Type 0
StatesHaveRules = (letters : ℕ) (setting : Setting) (rounds : ℕ) (s : RunState)
    → All (HasWords letters) setting.generators → IsRunState setting rounds s → All (IsRule letters setting.compare) s.rules

-- One record for each rule; at most as many rules as generators and treated ambiguities, at most as many of these as the budget of
-- pairs allows, and at least one for each round after round 0.
pub record IsBounded (setting : Setting) (rounds : ℕ) (s : RunState) : Type 0 where
  pub one_each : length s.made ≡ length s.rules
  pub few_rules : length s.rules ≤ length setting.in_turn + length s.treated
  pub few_treated : length s.treated ≤ setting.budget.pairs
  pub few_rounds : rounds ≤ suc (length s.treated)

abbrev pub StatesAreBounded : Type 0
StatesAreBounded = (setting : Setting) (rounds : ℕ) (s : RunState) → IsRunState setting rounds s → IsBounded setting rounds s
