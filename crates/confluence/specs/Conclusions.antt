-- What follows from the invariant of a completion.
use Rattle.std.specs.Prelude.{◌≡◌, ◌≤◌, ℕ, List, length, Some, Contains}
use Rattle.definitions.specs.Poly.{Term}
use Rattle.definitions.specs.Combination.{InRationalIdeal}
use Rattle.word_orders.specs.Admissible.{Compare, IsAdmissible}
use Rattle.word_orders.specs.Orders.{IsBelow}
use Rattle.traced_rows.specs.declared.Made.{Made}
use Rattle.rule_reduce.specs.declared.rule.Rule.{Rule}
use Rattle.rule_reduce.specs.declared.state.State.{State}
use Rattle.rule_reduce.specs.RuleLists.{rule_at}
use Rattle.ambiguities.specs.declared.ambiguity.Ambiguity.{Ambiguity}
use Rattle.ambiguities.specs.Ambiguities.{IsAmbiguity, overlap_word_of}
use Rattle.ambiguities.specs.Resolved.{ComesBelow, ResolvedBelow, Resolved}
use Rattle.confluence.specs.Reductions.{IsNonzero, IsZero, HasLettersBelow, IsReduced}
use Rattle.confluence.specs.Kept.{HaveLettersBelow, Kept}

-- all generators were reduced, as round 0 does with each number from 1 to their count
abbrev pub AreAllDone : List (List Term) → List ℕ → Type 0
AreAllDone generators done = (n : ℕ) → 1 ≤ n → n ≤ length generators → Contains done n

-- no ambiguity of the rules is pending; `between` lists the ambiguities of the rules
abbrev pub NothingPending : List Rule → List Ambiguity → Type 0
NothingPending rules treated = (a : Ambiguity) → IsAmbiguity rules a → (Contains treated a → ⊥) → ⊥

-- none is pending whose overlap word is below the word
abbrev pub NothingPendingBelow : ℕ → Compare → List Rule → List Ambiguity → List ℕ → Type 0
NothingPendingBelow letters compare rules treated word = (a : Ambiguity) → IsAmbiguity rules a → (Contains treated a → ⊥)
    → IsBelow letters compare (overlap_word_of rules a) word → ⊥

-- Where nothing is pending the rules are resolved, and where nothing is pending below a word they are resolved below it.
abbrev pub ResolvedWhereClosed : Type 0
ResolvedWhereClosed = (letters : ℕ) (compare : Compare) (generators : List (List Term)) (rules : List Rule) (made : List Made)
    (done : List ℕ) (treated : List Ambiguity)
    → Kept letters compare generators rules made done treated → NothingPending rules treated → Resolved letters compare rules

abbrev pub ResolvedBelowPending : Type 0
ResolvedBelowPending = (letters : ℕ) (compare : Compare) (generators : List (List Term)) (rules : List Rule) (made : List Made)
    (done : List ℕ) (treated : List Ambiguity) (word : List ℕ)
    → Kept letters compare generators rules made done treated → NothingPendingBelow letters compare rules treated word
    → ResolvedBelow letters compare rules word

-- Each rule is in the rational ideal of the generators.
abbrev pub RulesAreInside : Type 0
RulesAreInside = (letters : ℕ) (compare : Compare) (generators : List (List Term)) (rules : List Rule) (made : List Made) (done : List ℕ)
    (treated : List Ambiguity) (n : ℕ) (g : Rule)
    → Kept letters compare generators rules made done treated → rule_at rules n ≡ Some g → InRationalIdeal generators g.poly.terms

-- And so is each polynomial that is reduced to zero.
abbrev pub ZeroIsInside : Type 0
ZeroIsInside = (letters : ℕ) (compare : Compare) (generators : List (List Term)) (rules : List Rule) (made : List Made) (done : List ℕ)
    (treated : List Ambiguity) (p : List Term) (s : State)
    → Kept letters compare generators rules made done treated → IsReduced letters compare rules p s → IsZero s.rest → InRationalIdeal generators p

-- Where nothing is pending, a polynomial with a nonzero rest is outside: no positive multiple of it is a combination.
abbrev pub NonzeroIsOutside : Type 0
NonzeroIsOutside = (letters : ℕ) (compare : Compare) (rank : List ℕ → List ℕ) (generators : List (List Term)) (rules : List Rule)
    (made : List Made) (done : List ℕ) (treated : List Ambiguity) (p : List Term) (s : State)
    → IsAdmissible letters compare rank → Kept letters compare generators rules made done treated → AreAllDone generators done → NothingPending rules treated
    → HasLettersBelow letters p → IsReduced letters compare rules p s → IsNonzero s.rest → InRationalIdeal generators p → ⊥

-- Where nothing is pending below a word, it does not come from the generators below that word.
abbrev pub NonzeroIsNotBelow : Type 0
NonzeroIsNotBelow = (letters : ℕ) (compare : Compare) (rank : List ℕ → List ℕ) (generators : List (List Term)) (rules : List Rule)
    (made : List Made) (done : List ℕ) (treated : List Ambiguity) (word : List ℕ) (p : List Term) (s : State)
    → IsAdmissible letters compare rank → HaveLettersBelow letters generators → Kept letters compare generators rules made done treated
    → AreAllDone generators done → NothingPendingBelow letters compare rules treated word
    → IsReduced letters compare rules p s → IsNonzero s.rest → ComesBelow letters compare generators word p → ⊥
