-- What holds of each state of the run of a problem, without a premise.
use Rattle.std.specs.Prelude.{◌≡◌, ◌⊎◌, ◌≤◌, ℕ, suc, List, [], ◌∷◌, length, Some, Contains}
use Rattle.std.specs.List.{All}
use Rattle.definitions.specs.Combination.{InRationalIdeal, generator_at}
use Rattle.word_orders.specs.Specified.{asked_cmp}
use Rattle.quiver.specs.Declarations.{letter_count, quiver_of}
use Rattle.rule_reduce.specs.declared.rule.Rule.{Rule}
use Rattle.rule_reduce.specs.RuleLists.{IsRule, rule_at}
use Rattle.ambiguities.specs.declared.ambiguity.Ambiguity.{Ambiguity}
use Rattle.ambiguities.specs.Ambiguities.{IsAmbiguity, overlap_word_of}
use Rattle.ambiguities.specs.Resolved.{IsResolved, ResolvedBelow, Resolved}
use Rattle.adjoint_rules.specs.declared.problem.Problem.{Problem}
use Rattle.adjoint_rules.specs.Problem.{numbers, is_in_play, polynomials}
use Rattle.confluence.specs.Kept.{AreApart, AreRecorded, IsReached}
use Rattle.confluence.specs.Typed.{AreTypedInPlay}
use Rattle.traced_completion.specs.declared.budget.Budget.{Budget}
use Rattle.ambiguities.specs.declared.waiting.Waiting.{Waiting}
use Rattle.traced_completion.specs.Pending.{IsPending, AreAllPending}
use Rattle.traced_completion.specs.PlainRun.{RunState, setting_of, IsRunState}

-- An ambiguity of the rules was treated, or it is pending with its overlap word.
abbrev pub IsTreatedOrPending : RunState → Ambiguity → Type 0
IsTreatedOrPending s a = Contains s.treated a ⊎ IsPending s.rules s.treated (record { which = a; word = overlap_word_of s.rules a })

-- What holds of the rules, their records and the treated ambiguities, after any rounds.
pub record IsKeptOf (problem : Problem) (s : RunState) : Type 0 where
  pub are_rules : All (IsRule (letter_count problem.parts.quiver) (asked_cmp problem.parts.order)) s.rules
  -- the leading word of each rule occurs in that of no later one
  pub apart : AreApart s.rules
  -- each rule times its scale is the sum of the rows of its record, which are over generators and earlier rules
  pub recorded : AreRecorded (polynomials problem.generators) s.rules s.made
  -- some positive multiple of each rule is a combination of the generators
  pub inside : (n : ℕ) (g : Rule) → rule_at s.rules n ≡ Some g → InRationalIdeal (polynomials problem.generators) g.poly.terms
  -- its words are paths of one signature, with letters in play
  pub typed : AreTypedInPlay (quiver_of problem.parts.quiver) (is_in_play problem.parts.quiver problem.parts.starred (numbers problem.parts.marked)) s.rules
  -- each treated ambiguity is resolved, and each other one of the rules is pending
  pub resolved : All (IsResolved (letter_count problem.parts.quiver) (asked_cmp problem.parts.order) s.rules) s.treated
  pub others : (a : Ambiguity) → IsAmbiguity s.rules a → IsTreatedOrPending s a
  -- so all are resolved where none is pending, and those below the first pending word where some are
  pub closed : AreAllPending (asked_cmp problem.parts.order) s.rules s.treated []
      → Resolved (letter_count problem.parts.quiver) (asked_cmp problem.parts.order) s.rules
  pub below : (w : Waiting) (ws : List Waiting) → AreAllPending (asked_cmp problem.parts.order) s.rules s.treated (w ∷ ws)
      → ResolvedBelow (letter_count problem.parts.quiver) (asked_cmp problem.parts.order) s.rules w.word

-- This holds of the state after each number of completed rounds of a problem.
abbrev pub StatesAreKept : Type 0
StatesAreKept = (problem : Problem) (budget : Budget) (rounds : ℕ) (s : RunState) → IsRunState (setting_of problem budget) rounds s → IsKeptOf problem s

-- After round 0, some positive multiple of each generator is a sum of rows over the rules in which each word is at most a word of it.
abbrev pub GeneratorsAreReached : Type 0
GeneratorsAreReached = (problem : Problem) (budget : Budget) (rounds : ℕ) (s : RunState) (number : ℕ) → IsRunState (setting_of problem budget) (suc rounds) s
    → 1 ≤ number → number ≤ length problem.generators
    → IsReached (letter_count problem.parts.quiver) (asked_cmp problem.parts.order) s.rules (generator_at (polynomials problem.generators) number)
