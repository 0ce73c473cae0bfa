-- Words that meet have a letter in common: the first one of the second word, which is marked where those of the first word are.
use Rattle.ambiguities.proofs.Prelude.{◌≡◌, ◌≢◌, ◌⊎◌, inl, inr, ℕ, ◌+◌, ◌%◌, ◌<◌, Bool, true, false, List, map, length, get_or, slice_set, sym, subst, ap, ◌∙◌, arith, mod-lt, add-one, cases_eq, length-set, get_or-set_other, get_or-map, slice_get-get_or, All, get_or-set_at, OccursAt-length, Kind, Overlap, Inclusion, Rule, rule_at, Ambiguity, MeetsAs, IsAmbiguity, lead_at, IsOfPair, Agree, first_of, is_marked, HasMarks}
use Rattle.ambiguities.proofs.Agreement.{agreement_by_occurrence, agreement_by_overlap}
use Rattle.ambiguities.proofs.Joined.{lead_at-is}
use Rattle.ambiguities.proofs.Occurrences.{overlaps_within}

-- a mark more, and those that were there
module _ (marks : List Bool) (word : List ℕ) where
  pub marks_more : (count : ℕ) → length marks ≡ count → 0 < count → (place letter : ℕ) → letter ≡ get_or word place 0 → ((k : ℕ) → k < place → is_marked marks (get_or word k 0) ≡ true)
      → (k : ℕ) → k < place + 1 → is_marked (slice_set marks (letter % count) true) (get_or word k 0) ≡ true
  marks_more count sized some place letter here before k inside =
      ap (λ n. get_or more (get_or word k 0 % n) false) (length-set marks (letter % count) true ∙ sized) ∙ go (cases_eq (get_or word k 0 % count) (letter % count)) (cases_eq k place)
    where
      more : List Bool
      more = slice_set marks (letter % count) true

      go : (get_or word k 0 % count ≡ letter % count) ⊎ (get_or word k 0 % count ≢ letter % count) → (k ≡ place) ⊎ (k ≢ place) → get_or more (get_or word k 0 % count) false ≡ true
      go (inl same) last = get_or-set_at marks (letter % count) (get_or word k 0 % count) true false same (omega (arith, sized, mod-lt letter some))
      go (inr other) (inl last) = absurd (other (ap (λ n. get_or word n 0 % count) last ∙ ap (λ n. n % count) (sym here)))
      go (inr other) (inr earlier) =
          get_or-set_other marks (letter % count) (get_or word k 0 % count) true false other
          ∙ ap (λ n. get_or marks (get_or word k 0 % n) false) (sym sized) ∙ before k (omega (arith, inside, earlier))

module _ (marks : List Bool) (p q : List ℕ) (marked : HasMarks marks p) (some : 0 < length q) (unmarked : is_marked marks (first_of q) ≡ false) where
  apart : (place : ℕ) → place < length p → Agree p q place → ⊥
  apart place inside agree =
      let here : place + 0 < length p = omega (arith, inside) in
      absurd (cc (sym (marked (place + 0) here) ∙ ap (is_marked marks) (agree 0 here some) ∙ unmarked))

  -- no mark, no meeting
  pub meets_nowhere : (kind : Kind) (i j place : ℕ) → MeetsAs kind i j p q place → ⊥
  meets_nowhere Overlap i j place at = apart place (overlaps_within p q place at) (agreement_by_overlap p q place at)
  meets_nowhere Inclusion i j place meets = apart place (omega (arith, OccursAt-length p q place meets.1, some)) (agreement_by_occurrence p q place meets.1)

-- and so the two rules have no ambiguity
pub pair_nowhere : (rules : List Rule) (marks : List Bool) (i j : ℕ) → HasMarks marks (lead_at rules i) → 0 < length (lead_at rules j) → is_marked marks (first_of (lead_at rules j)) ≡ false
    → (a : Ambiguity) → IsOfPair rules i j a → ⊥
pair_nowhere rules marks i j marked some unmarked a pair =
    meets_nowhere marks is.first.lead is.second.lead (subst (HasMarks marks) first_lead marked) (subst (λ q. 0 < length q) second_lead some)
    (subst (λ q. is_marked marks (first_of q) ≡ false) second_lead unmarked) a.kind a.i a.j a.place is.meets
  where
    is : IsAmbiguity rules a
    is = pair.0

    first_lead : lead_at rules i ≡ is.first.lead
    first_lead = ap (lead_at rules) (sym pair.1) ∙ lead_at-is rules a.i is.first is.first_numbered

    second_lead : lead_at rules j ≡ is.second.lead
    second_lead = ap (lead_at rules) (sym pair.2) ∙ lead_at-is rules a.j is.second is.second_numbered

-- the leading word of the rule at a place, whose number is by one above it
module _ (rules : List Rule) (number place : ℕ) (is : number ≡ place + 1) (inside : place < length rules) where
  lead_of : (d : Rule) → lead_at rules number ≡ (get_or rules place d).lead
  lead_of d = lead_at-is rules number (get_or rules place d) (ap (rule_at rules) (is ∙ add-one place) ∙ slice_get-get_or rules place d inside)

  pub some_at : All (λ g. 0 < length g.lead) rules → (d : Rule) → 0 < length (lead_at rules number)
  some_at nonempty d = subst (λ w. 0 < length w) (sym (lead_of d)) (nonempty place d inside)

  pub first_at : (firsts : List ℕ) → firsts ≡ map (λ g. first_of g.lead) rules → (d : Rule) → get_or firsts place 0 ≡ first_of (lead_at rules number)
  first_at firsts letters d = ap (λ xs. get_or xs place 0) letters ∙ get_or-map (λ g. first_of g.lead) rules place d 0 inside ∙ ap first_of (sym (lead_of d))
