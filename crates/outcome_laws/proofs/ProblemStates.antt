-- The run of a problem satisfies the premises of the laws of runs.
use Rattle.outcome_laws.proofs.Prelude.{◌⊎◌, inl, inr, ℕ, suc, List, ◌++◌, Result, Ok, arith, refl, length-map, All-contains, Compare, IsAdmissible, asked_cmp, asked_rank, asked_cmp-admissible, letter_count, quiver_of, generator_at, Ambiguity, IsAmbiguity, Problem, polynomials, IsReached, rules_are_inside, listed_or_not, resolved_where_closed, resolved_below_pending, Budget, Rule, ReduceFault, Recorded, Setting, RunState, recorded, setting_of, IsRunState, IsKeptState, done_after, IsTreatedOrPending, StatesAreKept, GeneratorsAreReached, Contains}
use Rattle.outcome_laws.proofs.LettersInPlay.{problem_play, generators_in_play}
use Rattle.outcome_laws.proofs.ProblemPolynomials.{turns_in_range, all_have_turns}
use Rattle.outcome_laws.proofs.RoundEnds.{Takes, ZeroTurns, LaterTurns, taken_by, Treats}
use Rattle.outcome_laws.proofs.RunsKept.{BeginsWith}
use Rattle.outcome_laws.proofs.Walks.{Comes, IsKept, nothing_kept, Now, GeneratorFails, zero_turns, LaterFails, later_turns, run}
use Rattle.outcome_laws.proofs.WholeRuns.{runs_are_kept, none_pending, first_is_least_pending}

module _ (problem : Problem) (budget : Budget) where
  abbrev setting : Setting
  setting = setting_of problem budget

  abbrev letters : ℕ
  letters = letter_count problem.parts.quiver

  abbrev compare : Compare
  compare = asked_cmp problem.parts.order

  abbrev rank : List ℕ → List ℕ
  rank = asked_rank (letter_count problem.parts.quiver) problem.parts.order

  pub order_laws : IsAdmissible letters compare rank
  order_laws = asked_cmp-admissible (letter_count problem.parts.quiver) problem.parts.order

  -- what each step of its run keeps, beside the invariant
  abbrev pub IsKeptInRun : (Recorded → Type 0) → Type 0
  IsKeptInRun = IsKept (quiver_of problem.parts.quiver) (problem_play problem) letters rank setting order_laws (generators_in_play problem)

  module _ (P : Recorded → Type 0) (kept : IsKeptInRun P) where
    abbrev pub NowInRun : List ℕ → List Ambiguity → Recorded → Type 0
    NowInRun = Now (quiver_of problem.parts.quiver) (problem_play problem) letters rank setting order_laws (generators_in_play problem) (turns_in_range problem) P kept

    now_in_run : (n : ℕ) (s : RunState) → IsRunState setting n s → NowInRun (done_after setting n) s.treated (recorded s)
    now_in_run = run (quiver_of problem.parts.quiver) (problem_play problem) letters rank setting order_laws (generators_in_play problem) (turns_in_range problem) P kept

    pub kept_in_run : (n : ℕ) (s : RunState) → IsRunState setting n s → P (recorded s)
    kept_in_run n s is = (now_in_run n s is).1

    abbrev pub ZeroFails : ReduceFault → Type 0
    ZeroFails = GeneratorFails (quiver_of problem.parts.quiver) (problem_play problem) letters rank setting order_laws (generators_in_play problem) (turns_in_range problem) P kept

    pub zero_in_run : (s : RunState) → IsRunState setting 0 s → (r : Result Recorded ReduceFault) → ZeroTurns setting s r
        → Comes (λ done t. NowInRun done s.treated t) ZeroFails setting.in_turn r
    zero_in_run s is =
        zero_turns (quiver_of problem.parts.quiver) (problem_play problem) letters rank setting order_laws (generators_in_play problem) (turns_in_range problem) P kept s
        (now_in_run 0 s is)

    abbrev pub FailsLater : List Rule → List Ambiguity → ReduceFault → Type 0
    FailsLater = LaterFails (quiver_of problem.parts.quiver) (problem_play problem) letters rank setting order_laws (generators_in_play problem) (turns_in_range problem) P kept

    pub later_in_run : (n : ℕ) (s : RunState) → IsRunState setting (suc n) s → (takes : Takes setting s) (r : Result Recorded ReduceFault) → LaterTurns setting s takes r
        → Comes (λ treated t. BeginsWith s.rules t.rules × NowInRun setting.in_turn treated t) (FailsLater s.rules (taken_by setting s takes)) (s.treated ++ taken_by setting s takes) r
    later_in_run n s is =
        later_turns (quiver_of problem.parts.quiver) (problem_play problem) letters rank setting order_laws (generators_in_play problem) (turns_in_range problem) P kept s setting.in_turn
        (now_in_run (suc n) s is)

  pub rules_begin : (n : ℕ) (before s : RunState) → IsRunState setting (suc n) before → Treats setting before s → BeginsWith before.rules s.rules
  rules_begin n before s is round = (later_in_run (λ r. Unit {0}) nothing n before is round.takes (Ok (recorded s)) round.turns).0
    where
      nothing : IsKeptInRun (λ r. Unit {0})
      nothing = nothing_kept (quiver_of problem.parts.quiver) (problem_play problem) letters rank setting order_laws (generators_in_play problem)

  module _ (n : ℕ) (s : RunState) (is : IsRunState setting n s) where
    pub state_kept : IsKeptState (quiver_of problem.parts.quiver) (problem_play problem) letters setting (done_after setting n) s
    state_kept =
        runs_are_kept (quiver_of problem.parts.quiver) (problem_play problem) letters rank setting n s order_laws
        (generators_in_play problem) (turns_in_range problem) is

    treated_or_pending : (a : Ambiguity) → IsAmbiguity s.rules a → IsTreatedOrPending s a
    treated_or_pending a ambiguity = go (listed_or_not s.treated a)
      where
        go : Contains s.treated a ⊎ (Contains s.treated a → ⊥) → IsTreatedOrPending s a
        go (inl listed) = inl listed
        go (inr none) = inr (record { is = ambiguity; untreated = none; overlap = refl })

pub states_are_kept : StatesAreKept
states_are_kept problem budget n s is =
    let now = state_kept problem budget n s is in
    record {
      are_rules = now.kept.are_rules;
      apart = now.kept.apart;
      recorded = now.kept.recorded;
      inside = λ number g numbered.
          rules_are_inside (letter_count problem.parts.quiver) (asked_cmp problem.parts.order) (polynomials problem.generators) s.rules s.made (done_after (setting_of problem budget) n) s.treated number g now.kept numbered;
      typed = now.typed;
      resolved = now.kept.resolved;
      others = treated_or_pending problem budget n s is;
      closed = λ all.
          resolved_where_closed (letter_count problem.parts.quiver) (asked_cmp problem.parts.order) (polynomials problem.generators) s.rules s.made (done_after (setting_of problem budget) n) s.treated now.kept
          (none_pending (asked_cmp problem.parts.order) s.rules s.treated all);
      below = λ w ws all.
          resolved_below_pending (letter_count problem.parts.quiver) (asked_cmp problem.parts.order) (polynomials problem.generators) s.rules s.made (done_after (setting_of problem budget) n) s.treated w.word now.kept
          (first_is_least_pending (letter_count problem.parts.quiver) (asked_cmp problem.parts.order) (asked_rank (letter_count problem.parts.quiver) problem.parts.order) s.rules s.treated w ws (order_laws problem budget) all);
    }

pub generators_are_reached : GeneratorsAreReached
generators_are_reached problem budget n s number is some most =
    let now = state_kept problem budget (suc n) s is in
    All-contains (λ k. IsReached (letter_count problem.parts.quiver) (asked_cmp problem.parts.order) s.rules (generator_at (polynomials problem.generators) k)) (setting_of problem budget).in_turn number now.kept.reached
    (all_have_turns problem number some (omega (arith, most, length-map problem.generators (λ p. p.terms))))
