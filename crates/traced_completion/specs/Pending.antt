-- The ambiguities that were not treated, in the order in which they are taken.
use Rattle.std.specs.Prelude.{◌≡◌, ◌⊎◌, ℕ, List, [], ◌∷◌, ◌++◌, map, take, Contains, Option, Some, None}
use Rattle.std.specs.List.{All}
use Rattle.std.specs.declared.cmp.Ordering.TheVariants.{Less}
use Rattle.word_orders.specs.Admissible.{Compare}
use Rattle.rule_reduce.specs.declared.rule.Rule.{Rule}
use Rattle.ambiguities.specs.declared.ambiguity.Ambiguity.{Ambiguity}
use Rattle.ambiguities.specs.Ambiguities.{IsAmbiguity, overlap_word_of}
use Rattle.ambiguities.specs.declared.waiting.Waiting.{Waiting}
use Rattle.ambiguities.specs.Listed.{ListsExactly}
use Rattle.ambiguities.specs.Order.{IsWaitingBefore}

-- An ambiguity of the rules, which is not among the treated ones, with its overlap word.
pub record IsPending (rules : List Rule) (treated : List Ambiguity) (w : Waiting) : Type 0 where
  pub is : IsAmbiguity rules w.which
  pub untreated : ¬ Contains treated w.which
  pub overlap : w.word ≡ overlap_word_of rules w.which

-- The list has exactly the pending ones, each before all later ones.
abbrev pub AreAllPending : Compare → List Rule → List Ambiguity → List Waiting → Type 0
AreAllPending compare rules treated store = ListsExactly (IsWaitingBefore compare) (IsPending rules treated) store

-- the ambiguities of a list, without their words
abbrev pub ambiguities_of : List Waiting → List Ambiguity
ambiguities_of store = map (λ w. w.which) store

-- Where the old list had all pending ones of the first `known` rules, the new list has all pending ones of
-- all rules, with the first `taken` ones of the old list treated.
abbrev pub IsNextStore : Compare → List Rule → ℕ → ℕ → List Waiting → List Waiting → Type 0
IsNextStore compare rules known taken old new = (treated : List Ambiguity)
    → All (IsAmbiguity (take known rules)) treated → AreAllPending compare (take known rules) treated old
    → AreAllPending compare rules (treated ++ ambiguities_of (take taken old)) new

-- the first overlap word of a list
abbrev pub first_word : List Waiting → Option (List ℕ)
first_word [] = None
first_word (w ∷ store) = Some w.word

-- a pending ambiguity has this overlap word, and that of no pending one is below it
pub record IsLeastWord (compare : Compare) (rules : List Rule) (treated : List Ambiguity) (word : List ℕ) : Type 0 where
  pub which : Ambiguity
  pub pending : IsPending rules treated (record { which = which; word = word })
  pub least : (w : Waiting) → IsPending rules treated w → (w.word ≡ word) ⊎ (compare word w.word ≡ Less)

-- the least overlap word of the pending ones, or None where nothing is pending
abbrev pub IsLeastPending : Compare → List Rule → List Ambiguity → Option (List ℕ) → Type 0
IsLeastPending compare rules treated None = (w : Waiting) → ¬ IsPending rules treated w
IsLeastPending compare rules treated (Some word) = IsLeastWord compare rules treated word
