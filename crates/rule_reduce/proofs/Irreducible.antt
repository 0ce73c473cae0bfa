-- Where no term can be chosen, no leading word occurs in a word.
use Rattle.std.proofs.Common.{◌≡◌, ℕ, suc, List, [], ◌∷◌, get_or, Option, Some, None, MatchOption, refl}
use Rattle.std.proofs.lemmas.List.Elements.{All-nil, All-cons}
use Rattle.std.specs.List.{All}
use Rattle.std.specs.declared.cmp.Ordering.{Ordering}
use Rattle.std.specs.declared.cmp.Ordering.TheVariants.{Less, Equal, Greater}
use Rattle.definitions.specs.Poly.{Term}
use Rattle.word_core.specs.Occurrence.{OccursNowhere, IsFirstPlace}
use Rattle.nc_polynomial.specs.Terms.{by_order}
use Rattle.word_orders.specs.Admissible.{Compare}
use Rattle.rule_index.proofs.PlacesOfWords.{place_in-tells}
use Rattle.rule_index.specs.Matches.{match_or, match_of, place_in}
use Rattle.rule_reduce.specs.Choices.{choice_or, choice_from, choice_of}
use Rattle.rule_reduce.specs.Laws.{IsIrreducible, RestsAreIrreducible}
use Rattle.rule_reduce.specs.NormalForms.{start_of}
use Rattle.rule_reduce.specs.RuleLists.{entries_from, entries_of}
use Rattle.rule_reduce.specs.declared.rule.Rule.{Rule}
use Rattle.rule_reduce.specs.declared.state.Choice.{Choice}
use Rattle.rule_reduce.proofs.Runs.{reduction_keeps}

-- no entry of a rule occurs where there is no match
pub no_match : (n : ℕ) (rules : List Rule) (w : List ℕ) → match_of (entries_from n rules) w ≡ None → All (λ g. OccursNowhere w g.lead) rules
no_match n [] w none = All-nil (λ (g : Rule). OccursNowhere w g.lead)
no_match n (g ∷ rules) w none =
    (elim (place_in w g.lead) as (λ p. MatchOption p (OccursNowhere w g.lead) (IsFirstPlace w g.lead) → match_or n p (match_of (entries_from (suc n) rules) w) ≡ None → All (λ f. OccursNowhere w f.lead) (g ∷ rules)) [
      | None ↦ λ nowhere k. All-cons (λ (f : Rule). OccursNowhere w f.lead) g rules nowhere (no_match (suc n) rules w k)
      | Some place ↦ λ first k. absurd (cc)
    ]) (place_in-tells w g.lead) none

module _ (compare : Compare) (entries : List (List ℕ × ℕ)) where
  -- a choice is never given up
  stays : (p : List Term) (best : Choice) → choice_from compare entries (Some best) p ≡ None → ⊥
  stays [] best none = cc
  stays (t ∷ p) best none = go (compare t.1 best.word) (match_of entries t.1) none (stays p)
    where
      go : (o : Ordering) (m : Option (ℕ × ℕ)) → choice_from compare entries (by_order o (Some best) (Some best) (choice_or t m (Some best))) p ≡ None
          → ((b : Choice) → choice_from compare entries (Some b) p ≡ None → ⊥) → ⊥
      go Less m k more = more best k
      go Equal m k more = more best k
      go Greater None k more = more best k
      go Greater (Some m) k more = more (record { coefficient = t.0; word = t.1; number = m.0; place = m.1 }) k

  none_matches : (p : List Term) → choice_from compare entries None p ≡ None → All (λ t. match_of entries t.1 ≡ None) p
  none_matches [] none = All-nil (λ (t : Term). match_of entries t.1 ≡ None)
  none_matches (t ∷ p) none =
      (elim (match_of entries t.1) as (λ m. match_of entries t.1 ≡ m → choice_from compare entries (choice_or t m None) p ≡ None → All (λ u. match_of entries u.1 ≡ None) (t ∷ p)) [
        | None ↦ λ is k. All-cons (λ (u : Term). match_of entries u.1 ≡ None) t p is (none_matches p k)
        | Some m ↦ λ is k. absurd (stays p (record { coefficient = t.0; word = t.1; number = m.0; place = m.1 }) k)
      ]) refl none

pub irreducible_where_none : (compare : Compare) (rules : List Rule) (p : List Term) → choice_of compare (entries_of rules) p ≡ None → IsIrreducible rules p
irreducible_where_none compare rules p none i t k = no_match 1 rules (get_or p i t).1 (none_matches compare (entries_of rules) p none i t k)

-- the law
pub rests_are_irreducible : RestsAreIrreducible
rests_are_irreducible compare rules p steps s ends =
    irreducible_where_none compare rules s.rest (reduction_keeps (λ t. Unit {0}) compare rules (λ c g t chosen has kept. tt) steps steps (start_of p) s ends tt).none_left
