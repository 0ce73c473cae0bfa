-- The rule that matches a word: the first one whose leading word occurs in it.
use Rattle.std.proofs.Common.{◌≡◌, ℕ, zero, suc, ◌+◌, ◌<◌, List, [], ◌∷◌, slice_get, Some, None, MatchOption, refl, subst, arith}
use Rattle.std.proofs.lemmas.Option.{same_Some, some_pair_parts}
use Rattle.word_core.specs.Occurrence.{OccursNowhere, IsFirstPlace}
use Rattle.rule_index.proofs.PlacesOfWords.{place_in-tells}
use Rattle.rule_index.specs.Matches.{match_or, match_of, place_in}
use Rattle.rule_reduce.specs.RuleLists.{rule_at, entries_from, entries_of}
use Rattle.rule_reduce.specs.declared.rule.Rule.{Rule}

-- its place in the list
record MatchedAt (rules : List Rule) (w : List ℕ) (index place : ℕ) : Type 0 where
  rule : Rule
  here : slice_get rules index ≡ Some rule
  leftmost : IsFirstPlace w rule.lead place
  least : (n : ℕ) (g : Rule) → slice_get rules n ≡ Some g → n < index → OccursNowhere w g.lead

record MatchedFrom (first : ℕ) (rules : List Rule) (w : List ℕ) (number place : ℕ) : Type 0 where
  index : ℕ
  numbered : number ≡ first + index
  at : MatchedAt rules w index place

matched_later : (g : Rule) (rules : List Rule) (w : List ℕ) (index place : ℕ) → OccursNowhere w g.lead → MatchedAt rules w index place → MatchedAt (g ∷ rules) w (suc index) place
matched_later g rules w index place nowhere at = record { rule = at.rule; here = at.here; leftmost = at.leftmost; least = least }
  where
    least : (n : ℕ) (f : Rule) → slice_get (g ∷ rules) n ≡ Some f → n < suc index → OccursNowhere w f.lead
    least zero f is lesser = subst (λ h. OccursNowhere w h.lead) (same_Some g f is) nowhere
    least (suc n) f is lesser = at.least n f is (omega arith)

matched_from : (first : ℕ) (rules : List Rule) (w : List ℕ) (number place : ℕ) → match_of (entries_from first rules) w ≡ Some (number, place) → MatchedFrom first rules w number place
matched_from first [] w number place is = absurd (cc)
matched_from first (g ∷ rules) w number place is =
    (elim (place_in w g.lead) as (λ o. MatchOption o (OccursNowhere w g.lead) (IsFirstPlace w g.lead) → match_or first o (match_of (entries_from (suc first) rules) w) ≡ Some (number, place) → MatchedFrom first (g ∷ rules) w number place) [
      | None ↦ λ nowhere k.
          let rest = matched_from (suc first) rules w number place k in
          record { index = suc rest.index; numbered = omega (arith, rest.numbered); at = matched_later g rules w rest.index place nowhere rest.at }
      | Some p ↦ λ leftmost k.
          let parts = some_pair_parts first number p place k in
          record {
            index = 0;
            numbered = omega (arith, parts.0);
            at = record { rule = g; here = refl; leftmost = subst (IsFirstPlace w g.lead) parts.1 leftmost; least = λ n f is lesser. absurd (omega arith) };
          }
    ]) (place_in-tells w g.lead) is

-- the rule has the number, and no rule with a lesser one matches
pub record Matched (rules : List Rule) (w : List ℕ) (number place : ℕ) : Type 0 where
  pub rule : Rule
  pub numbered : rule_at rules number ≡ Some rule
  pub least : (n : ℕ) (g : Rule) → rule_at rules n ≡ Some g → n < number → OccursNowhere w g.lead
  pub leftmost : IsFirstPlace w rule.lead place

pub matched : (rules : List Rule) (w : List ℕ) (number place : ℕ) → match_of (entries_of rules) w ≡ Some (number, place) → Matched rules w number place
matched rules w number place is =
    let found = matched_from 1 rules w number place is in
    let number_is : suc found.index ≡ number = omega (arith, found.numbered) in
    subst (λ n. Matched rules w n place) number_is (record { rule = found.at.rule; numbered = found.at.here; least = least found.index found.at; leftmost = found.at.leftmost })
  where
    least : (index : ℕ) → MatchedAt rules w index place → (n : ℕ) (g : Rule) → rule_at rules n ≡ Some g → n < suc index → OccursNowhere w g.lead
    least index at zero g has lesser = absurd (cc)
    least index at (suc n) g has lesser = at.least n g has (omega arith)
