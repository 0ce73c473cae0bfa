-- The order of ambiguities: by their overlap words, and those that have the same one by their rules, their kinds and their places.
use Rattle.std.specs.Prelude.{◌≡◌, ◌⊎◌, List}
use Rattle.std.specs.Ordering.{nat_cmp, then_cmp, on}
use Rattle.std.specs.declared.cmp.Ordering.{Ordering}
use Rattle.std.specs.declared.cmp.Ordering.TheVariants.{Less}
use Rattle.word_orders.specs.Admissible.{Compare}
use Rattle.rule_reduce.specs.declared.rule.Rule.{Rule}
use Rattle.ambiguities.specs.declared.ambiguity.Ambiguity.{Ambiguity}
use Rattle.ambiguities.specs.declared.waiting.Waiting.{Waiting}
use Rattle.ambiguities.specs.Ambiguities.{IsAmbiguity, overlap_word_of}
use Rattle.ambiguities.specs.Listed.{IsBefore, ListsExactly, kind_number}

-- the ambiguity with its overlap word
abbrev pub waiting_of : List Rule → Ambiguity → Waiting
waiting_of rules a = record { which = a; word = overlap_word_of rules a }

-- The first one is before the second: by the overlap word, and where they have the same one by the first rule, then by
-- the second rule, then overlaps before inclusions, then by the place.
abbrev pub IsWaitingBefore : Compare → Waiting → Waiting → Type 0
IsWaitingBefore compare v w = (compare v.word w.word ≡ Less) ⊎ ((v.word ≡ w.word) × IsBefore v.which w.which)

-- the same of two ambiguities of the rules
abbrev pub IsBeforeByWord : Compare → List Rule → Ambiguity → Ambiguity → Type 0
IsBeforeByWord compare rules a b = IsWaitingBefore compare (waiting_of rules a) (waiting_of rules b)

-- The list has exactly the ambiguities of the rules, each before all later ones.
abbrev pub AreAllInOrder : Compare → List Rule → List Ambiguity → Type 0
AreAllInOrder compare rules found = ListsExactly (IsBeforeByWord compare rules) (IsAmbiguity rules) found

-- The list has exactly the ambiguities with the property, with their overlap words, each before all later ones.
abbrev pub AreInOrder : Compare → List Rule → (Ambiguity → Type 0) → List Waiting → Type 0
AreInOrder compare rules P items = ListsExactly (IsWaitingBefore compare) (λ w. P w.which × (w.word ≡ overlap_word_of rules w.which)) items

-- by the first rule, then by the second rule, then overlaps before inclusions, then by the place
abbrev pub ambiguity_cmp : Ambiguity → Ambiguity → Ordering
ambiguity_cmp = then_cmp (then_cmp (on (λ a. a.i) nat_cmp) (on (λ a. a.j) nat_cmp))
    (then_cmp (on (λ a. kind_number a.kind) nat_cmp) (on (λ a. a.place) nat_cmp))

-- by the overlap word, and then as their ambiguities
abbrev pub waiting_cmp : Compare → Waiting → Waiting → Ordering
waiting_cmp compare = then_cmp (on (λ w. w.word) compare) (on (λ w. w.which) ambiguity_cmp)
