-- The laws of the store of pending ambiguities, however it was made.
use Rattle.std.specs.Prelude.{◌≡◌, ◌↔◌, ◌≤◌, ℕ, List, [], ◌++◌, length, take}
use Rattle.std.specs.List.{All}
use Rattle.word_core.specs.Letters.{IsOver}
use Rattle.word_orders.specs.Admissible.{Compare, IsAdmissible}
use Rattle.rule_reduce.specs.declared.rule.Rule.{Rule}
use Rattle.rule_reduce.specs.RuleLists.{IsRule}
use Rattle.ambiguities.specs.declared.ambiguity.Ambiguity.{Ambiguity}
use Rattle.ambiguities.specs.Ambiguities.{IsAmbiguity, overlap_word_of}
use Rattle.ambiguities.specs.declared.waiting.Waiting.{Waiting}
use Rattle.traced_completion.specs.Pending.{AreAllPending, IsLeastPending, ambiguities_of, first_word}

-- Two lists with all pending ones are the same.
abbrev pub StoresAreUnique : Type 0
StoresAreUnique = (letters : ℕ) (compare : Compare) (rank : List ℕ → List ℕ) (rules : List Rule) (treated : List Ambiguity) (one other : List Waiting)
    → IsAdmissible letters compare rank → AreAllPending compare rules treated one → AreAllPending compare rules treated other → one ≡ other

-- The first overlap word of the store is the least one; where the store is empty, nothing is pending.
abbrev pub LeastWordsAreLeast : Type 0
LeastWordsAreLeast = (compare : Compare) (rules : List Rule) (treated : List Ambiguity) (store : List Waiting)
    → AreAllPending compare rules treated store → IsLeastPending compare rules treated (first_word store)

-- Without rules nothing is pending.
abbrev pub NothingIsPendingAtFirst : Type 0
NothingIsPendingAtFirst = (compare : Compare) (treated : List Ambiguity) → AreAllPending compare [] treated []

-- The ambiguity is one of the first rules, and its overlap word is the same.
pub record IsAmbiguityBefore (rules more : List Rule) (a : Ambiguity) : Type 0 where
  pub is : IsAmbiguity rules a
  pub same_word : overlap_word_of rules a ≡ overlap_word_of (rules ++ more) a

-- Where rules are appended, the ambiguities of the first ones are those whose two numbers are not above theirs.
abbrev pub AmbiguitiesStay : Type 0
AmbiguitiesStay = (rules more : List Rule) (a : Ambiguity)
    → IsAmbiguityBefore rules more a ↔ (IsAmbiguity (rules ++ more) a × (a.i ≤ length rules) × (a.j ≤ length rules))

-- The treated ones stay ambiguities of the rules when the first pending ones are taken and rules are appended.
abbrev pub TakenOnesAreAmbiguities : Type 0
TakenOnesAreAmbiguities = (compare : Compare) (rules more : List Rule) (treated : List Ambiguity) (store : List Waiting) (taken : ℕ)
    → All (IsAmbiguity rules) treated → AreAllPending compare rules treated store
    → All (IsAmbiguity (rules ++ more)) (treated ++ ambiguities_of (take taken store))

-- The overlap words are over the letters that the rules' words are over.
abbrev pub PendingWordsAreOver : Type 0
PendingWordsAreOver = (letters : ℕ) (compare : Compare) (rules : List Rule) (treated : List Ambiguity) (store : List Waiting)
    → All (IsRule letters compare) rules → AreAllPending compare rules treated store → All (λ w. IsOver letters w.word) store
