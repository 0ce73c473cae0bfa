-- The term that is reduced next, by which rule, and at which place.
use Rattle.std.specs.Prelude.{◌≡◌, ◌<◌, ◌↔◌, ℕ, List, [], ◌∷◌, Option, Some, None, Contains}
use Rattle.std.specs.List.{All}
use Rattle.std.specs.declared.cmp.Ordering.TheVariants.{Greater}
use Rattle.word_core.specs.Canonical.{word_cmp}
use Rattle.word_core.specs.Occurrence.{IsFirstPlace, OccursNowhere}
use Rattle.word_orders.specs.Admissible.{Compare, IsAdmissible}
use Rattle.definitions.specs.Poly.{Term}
use Rattle.nc_polynomial.specs.Terms.{IsDescending, by_order}
use Rattle.rule_index.specs.Matches.{match_of}
use Rattle.rule_reduce.specs.declared.rule.Rule.{Rule}
use Rattle.rule_reduce.specs.declared.state.Choice.{Choice}
use Rattle.rule_reduce.specs.RuleLists.{rule_at, entries_of}

-- The greatest word of the polynomial in which a leading word occurs, the least number of a rule whose leading word does,
-- and its leftmost place.
pub record IsChoice (compare : Compare) (rules : List Rule) (p : List Term) (c : Choice) : Type 0 where
  pub term : Contains p (c.coefficient, c.word)
  pub rule : Rule
  pub numbered : rule_at rules c.number ≡ Some rule
  -- no leading word occurs in a greater word
  pub greatest : All (λ t. compare t.1 c.word ≡ Greater → All (λ g. OccursNowhere t.1 g.lead) rules) p
  -- that of no rule with a lesser number occurs in this one
  pub least : (n : ℕ) (g : Rule) → rule_at rules n ≡ Some g → n < c.number → OccursNowhere c.word g.lead
  pub leftmost : IsFirstPlace c.word rule.lead c.place

-- a term with the least number whose word occurs in it, or else the choice so far
abbrev pub choice_or : Term → Option (ℕ × ℕ) → Option Choice → Option Choice
choice_or t None best = best
choice_or t (Some m) best = Some (record { coefficient = t.0; word = t.1; number = m.0; place = m.1 })

-- of the choice so far and a term the one with the greater word, where the term has a word that occurs in it
abbrev pub better_choice : Compare → List (List ℕ × ℕ) → Option Choice → Term → Option Choice
better_choice compare entries None t = choice_or t (match_of entries t.1) None
better_choice compare entries (Some best) t = by_order (compare t.1 best.word) (Some best) (Some best) (choice_or t (match_of entries t.1) (Some best))

abbrev pub choice_from : Compare → List (List ℕ × ℕ) → Option Choice → List Term → Option Choice
choice_from compare entries best [] = best
choice_from compare entries best (t ∷ p) = choice_from compare entries (better_choice compare entries best t) p

-- The greatest word in which a leading word occurs, the least number of a rule whose leading word does, and its leftmost place.
abbrev pub choice_of : Compare → List (List ℕ × ℕ) → List Term → Option Choice
choice_of compare entries p = choice_from compare entries None p

-- the order is the canonical one
abbrev pub IsPlain : Compare → Type 0
IsPlain compare = (u v : List ℕ) → compare u v ≡ word_cmp u v

-- no leading word occurs in the word if it is above the last one that was reduced
abbrev pub IsSettled : Compare → List (List ℕ × ℕ) → List ℕ → List ℕ → Type 0
IsSettled compare entries last w = compare w last ≡ Greater → match_of entries w ≡ None

-- In an admissible order, the choice that this computes is the one that there is.
abbrev pub ChoicesAreExact : Type 0
ChoicesAreExact = (letters : ℕ) (compare : Compare) (rank : List ℕ → List ℕ) (rules : List Rule) (p : List Term) (c : Choice)
    → IsAdmissible letters compare rank → IsDescending p → (choice_of compare (entries_of rules) p ≡ Some c) ↔ IsChoice compare rules p c
