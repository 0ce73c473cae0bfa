-- Each state of the plain run has the invariant of completions.
use Rattle.std.specs.Prelude.{◌≤◌, ℕ, zero, suc, Bool, List, [], ◌∷◌, length, Contains}
use Rattle.std.specs.List.{All}
use Rattle.definitions.specs.Poly.{Term}
use Rattle.definitions.specs.Quiver.{Quiver}
use Rattle.word_core.specs.Letters.{IsOver}
use Rattle.word_orders.specs.Admissible.{Compare, IsAdmissible}
use Rattle.nc_polynomial.specs.Shape.{IsShaped}
use Rattle.rule_reduce.specs.declared.rule.Rule.{Rule}
use Rattle.ambiguities.specs.declared.ambiguity.Ambiguity.{Ambiguity}
use Rattle.confluence.specs.Kept.{Kept}
use Rattle.confluence.specs.Typed.{IsTypedInPlay, AreTypedInPlay}
use Rattle.confluence.specs.Conclusions.{NothingPending, NothingPendingBelow}
use Rattle.ambiguities.specs.declared.waiting.Waiting.{Waiting}
use Rattle.traced_completion.specs.Pending.{AreAllPending}
use Rattle.traced_completion.specs.UnitsFirst.{units_first}
use Rattle.traced_completion.specs.PlainRun.{Setting, RunState, closed, IsRound, IsRunState}

-- sorted, with letters below the number, of one signature and in play
pub record IsGenerator (q : Quiver) (play : ℕ → Bool) (letters : ℕ) (p : List Term) : Type 0 where
  pub shaped : IsShaped p
  pub over : All (λ t. IsOver letters t.1) p
  pub typed : IsTypedInPlay q play p

-- the generators that this many rounds have reduced
abbrev pub done_after : Setting → ℕ → List ℕ
done_after setting zero = []
done_after setting (suc n) = setting.in_turn

-- the invariant holds, and the rules have one signature and are in play
pub record IsKeptState (q : Quiver) (play : ℕ → Bool) (letters : ℕ) (setting : Setting) (done : List ℕ) (s : RunState) : Type 0 where
  pub kept : Kept letters setting.compare setting.generators s.rules s.made done s.treated
  pub typed : AreTypedInPlay q play s.rules

-- This holds after each completed round.
abbrev pub RunsAreKept : Type 0
RunsAreKept = (q : Quiver) (play : ℕ → Bool) (letters : ℕ) (rank : List ℕ → List ℕ) (setting : Setting) (n : ℕ) (s : RunState)
    → IsAdmissible letters setting.compare rank → All (IsGenerator q play letters) setting.generators
    → All (λ k. (1 ≤ k) × (k ≤ length setting.generators)) setting.in_turn
    → IsRunState setting n s → IsKeptState q play letters setting (done_after setting n) s

-- A closed run has nothing pending.
abbrev pub ClosedIsNothingPending : Type 0
ClosedIsNothingPending = (setting : Setting) (n : ℕ) (s : RunState) → IsRound setting (suc n) s closed → NothingPending s.rules s.treated

-- Nothing is pending below the overlap word of the first pending ambiguity.
abbrev pub FirstIsLeastPending : Type 0
FirstIsLeastPending = (letters : ℕ) (compare : Compare) (rank : List ℕ → List ℕ) (rules : List Rule) (treated : List Ambiguity)
    (w : Waiting) (ws : List Waiting)
    → IsAdmissible letters compare rank → AreAllPending compare rules treated (w ∷ ws) → NothingPendingBelow letters compare rules treated w.word

-- Where the last generators are units, round 0 takes each generator, and no other number.
abbrev pub EachGeneratorHasItsTurn : Type 0
EachGeneratorHasItsTurn = (units count : ℕ) → units ≤ count
    → All (λ k. (1 ≤ k) × (k ≤ count)) (units_first units count) × ((n : ℕ) → 1 ≤ n → n ≤ count → Contains (units_first units count) n)
