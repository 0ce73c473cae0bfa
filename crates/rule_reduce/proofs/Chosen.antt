-- The choice that is computed is that of the greatest word, the least number and the leftmost place, and the only such one.
use Rattle.std.proofs.Common.{◌≡◌, inl, inr, ℕ, ◌<◌, ℤ, List, [], ◌∷◌, length, get_or, Option, Some, None, IfSome, refl, sym, ap, ap₂, ◌∙◌, subst, arith}
use Rattle.std.proofs.lemmas.List.{get_or_default}
use Rattle.std.proofs.lemmas.List.Elements.{All-nil, All-cons, All-tail, All-contains_itself, All-contains}
use Rattle.std.proofs.lemmas.Option.{none-some, same_Some}
use Rattle.std.specs.List.{All, Contains}
use Rattle.std.specs.Ordering.{ordering_reverse}
use Rattle.std.specs.declared.cmp.Ordering.{Ordering}
use Rattle.std.specs.declared.cmp.Ordering.TheVariants.{Less, Equal, Greater}
use Rattle.definitions.specs.Poly.{Term}
use Rattle.word_core.proofs.Order.{word_cmp-itself}
use Rattle.word_core.specs.Canonical.{word_cmp}
use Rattle.word_core.specs.Occurrence.{OccursAt, OccursNowhere}
use Rattle.nc_polynomial.specs.Terms.{IsDescending, by_order}
use Rattle.word_orders.specs.Admissible.{Compare, IsAdmissible}
use Rattle.rule_index.proofs.PlacesOfWords.{place_in-is}
use Rattle.rule_index.specs.Matches.{match_of, place_in}
use Rattle.rule_reduce.specs.Choices.{choice_or, better_choice, choice_from, choice_of, IsChoice, IsSettled, ChoicesAreExact}
use Rattle.rule_reduce.specs.RuleLists.{rule_at, entries_of}
use Rattle.rule_reduce.specs.declared.rule.Rule.{Rule}
use Rattle.rule_reduce.specs.declared.state.Choice.{Choice}
use Rattle.rule_reduce.proofs.Numbers.{rule_at-all}
use Rattle.rule_reduce.proofs.Irreducible.{no_match, irreducible_where_none}
use Rattle.rule_reduce.proofs.Matched.{Matched, matched}
use Rattle.rule_reduce.proofs.AtMost.{IsAtMost, turned, at_most-trans, at_most-greater}

-- in a descending list a word stands once
one_coefficient : (p : List Term) → IsDescending p → (w : List ℕ) (x y : ℤ) → Contains p (x, w) → Contains p (y, w) → x ≡ y
one_coefficient p descending w x y (i, i_in, at_i) (j, j_in, at_j) =
    let before = apart i j x y j_in at_i at_j in
    let behind = apart j i y x i_in at_j at_i in
    let same : i ≡ j = omega (arith, before, behind) in
    let here : get_or p i (x, w) ≡ (y, w) = get_or_default p i (x, w) (y, w) i_in ∙ ap (λ k. get_or p k (y, w)) same ∙ at_j in
    ap (λ (t : Term). t.0) (sym at_i ∙ here)
  where
    apart : (k l : ℕ) (a b : ℤ) → l < length p → get_or p k (a, w) ≡ (a, w) → get_or p l (b, w) ≡ (b, w) → k < l → ⊥
    apart k l a b inside at_k at_l before =
        let first : get_or p k (b, w) ≡ (a, w) = get_or_default p k (b, w) (a, w) (omega arith) ∙ at_k in
        let falls : word_cmp w w ≡ Greater = sym (ap₂ (λ (t u : Term). word_cmp t.1 u.1) first at_l) ∙ descending k l (b, w) before inside in
        cc (sym (word_cmp-itself w) ∙ falls)

module _ (compare : Compare) (entries : List (List ℕ × ℕ)) where
  abbrev made : Term → ℕ × ℕ → Choice
  made t m = record { coefficient = t.0; word = t.1; number = m.0; place = m.1 }

  -- what holds of each choice that can be made holds of the one that is
  all-choice : (Q : Choice → Type 0) (p : List Term) (best : Option Choice) (c : Choice) → All (λ t. (m : ℕ × ℕ) → match_of entries t.1 ≡ Some m → Q (made t m)) p
      → IfSome best Q → choice_from compare entries best p ≡ Some c → Q c
  all-choice Q [] None c each held is = absurd (cc)
  all-choice Q [] (Some b) c each held is = subst Q (same_Some b c is) held
  all-choice Q (t ∷ p) best c each held is = all-choice Q p (better_choice compare entries best t) c (All-tail (λ (u : Term). (m : ℕ × ℕ) → match_of entries u.1 ≡ Some m → Q (made u m)) t p each) (better best held) is
    where
      found : (m : Option (ℕ × ℕ)) → match_of entries t.1 ≡ m → (b : Option Choice) → IfSome b Q → IfSome (choice_or t m b) Q
      found None e b h = h
      found (Some m) e b h = each 0 t (omega arith) m e

      better : (b : Option Choice) → IfSome b Q → IfSome (better_choice compare entries b t) Q
      better None h = found (match_of entries t.1) refl None h
      better (Some b) h =
          elim (compare t.1 b.word) as (λ o. IfSome (by_order o (Some b) (Some b) (choice_or t (match_of entries t.1) (Some b))) Q) [ Less ↦ h | Equal ↦ h | Greater ↦ found (match_of entries t.1) refl (Some b) h ]

  module _ (letters : ℕ) (rank : List ℕ → List ℕ) (laws : IsAdmissible letters compare rank) where
    lower : (u v w : List ℕ) → compare u v ≡ Less → IsAtMost compare v w → IsAtMost compare u w
    lower u v w less more = at_most-trans letters compare rank laws u v w (inr less) more

    abbrev Reaches : Choice → Term → Type 0
    Reaches c t = (m : ℕ × ℕ) → match_of entries t.1 ≡ Some m → IsAtMost compare t.1 c.word

    -- the choice so far and each term that can be reduced are at most the choice that is made
    record AreAtMost (best : Option Choice) (p : List Term) (c : Choice) : Type 0 where
      so_far : IfSome best (λ b. IsAtMost compare b.word c.word)
      each : All (Reaches c) p

    at_most : (p : List Term) (best : Option Choice) (c : Choice) → choice_from compare entries best p ≡ Some c → AreAtMost best p c
    at_most [] None c is = absurd (cc)
    at_most [] (Some b) c is = record { so_far = inl (ap (λ (d : Choice). d.word) (same_Some b c is)); each = All-nil (Reaches c) }
    at_most (t ∷ p) None c is = go (match_of entries t.1) refl is (at_most p)
      where
        go : (m : Option (ℕ × ℕ)) → match_of entries t.1 ≡ m → choice_from compare entries (choice_or t m None) p ≡ Some c
            → ((b : Option Choice) (d : Choice) → choice_from compare entries b p ≡ Some d → AreAtMost b p d) → AreAtMost None (t ∷ p) c
        go None none k more = record { so_far = tt; each = All-cons (Reaches c) t p (λ m e. absurd (none-some m (sym none ∙ e))) (more None c k).each }
        go (Some m) found k more = let rest = more (Some (made t m)) c k in record { so_far = tt; each = All-cons (Reaches c) t p (λ n e. rest.so_far) rest.each }
    at_most (t ∷ p) (Some b) c is = go (compare t.1 b.word) refl (match_of entries t.1) refl is (at_most p)
      where
        go : (o : Ordering) → compare t.1 b.word ≡ o → (m : Option (ℕ × ℕ)) → match_of entries t.1 ≡ m → choice_from compare entries (by_order o (Some b) (Some b) (choice_or t m (Some b))) p ≡ Some c
            → ((a : Option Choice) (d : Choice) → choice_from compare entries a p ≡ Some d → AreAtMost a p d) → AreAtMost (Some b) (t ∷ p) c
        go Less less m e k more = let rest = more (Some b) c k in record { so_far = rest.so_far; each = All-cons (Reaches c) t p (λ n f. lower t.1 b.word c.word less rest.so_far) rest.each }
        go Equal level m e k more =
            let rest = more (Some b) c k in
            record { so_far = rest.so_far; each = All-cons (Reaches c) t p (λ n f. subst (λ w. IsAtMost compare w c.word) (sym (laws.same t.1 b.word level)) rest.so_far) rest.each }
        go Greater greater None none k more =
            let rest = more (Some b) c k in
            record { so_far = rest.so_far; each = All-cons (Reaches c) t p (λ n e. absurd (none-some n (sym none ∙ e))) rest.each }
        go Greater greater (Some m) found k more =
            let rest = more (Some (made t m)) c k in
            record { so_far = lower b.word t.1 c.word (turned letters compare rank laws t.1 b.word greater) rest.so_far; each = All-cons (Reaches c) t p (λ n e. rest.so_far) rest.each }

    -- a word above the chosen one has no match
    no_match_above : (t : Term) (c : Choice) → ((m : ℕ × ℕ) → match_of entries t.1 ≡ Some m → IsAtMost compare t.1 c.word) → compare t.1 c.word ≡ Greater → match_of entries t.1 ≡ None
    no_match_above t c below greater =
        (elim (match_of entries t.1) as (λ m. match_of entries t.1 ≡ m → match_of entries t.1 ≡ None)
        [ None ↦ λ e. e | Some m ↦ λ e. absurd (at_most-greater letters compare rank laws t.1 c.word (below m e) greater) ]) refl

-- the term that is chosen, and the rule that matches it
pub record Found (rules : List Rule) (p : List Term) (c : Choice) : Type 0 where
  pub term : Contains p (c.coefficient, c.word)
  pub match : Matched rules c.word c.number c.place

pub found : (compare : Compare) (rules : List Rule) (p : List Term) (c : Choice) → choice_of compare (entries_of rules) p ≡ Some c → Found rules p c
found compare rules p c is =
    let entries = entries_of rules in
    record {
      term = all-choice compare entries (λ b. Contains p (b.coefficient, b.word)) p None c (λ i t k m e. All-contains_itself p i t k) tt is;
      match = matched rules c.word c.number c.place (all-choice compare entries (λ b. match_of entries b.word ≡ Some (b.number, b.place)) p None c (λ i t k m e. e) tt is);
    }

module _ (letters : ℕ) (compare : Compare) (rank : List ℕ → List ℕ) (laws : IsAdmissible letters compare rank) (rules : List Rule) (p : List Term) where
  -- no word above the chosen one has a match
  pub none_above : (c : Choice) → choice_of compare (entries_of rules) p ≡ Some c → All (λ t. IsSettled compare (entries_of rules) c.word t.1) p
  none_above c is i t k greater = no_match_above compare (entries_of rules) letters rank laws (get_or p i t) c ((at_most compare (entries_of rules) letters rank laws p None c is).each i t k) greater

  -- what is computed is such a choice
  pub choice_tells : (c : Choice) → choice_of compare (entries_of rules) p ≡ Some c → IsChoice compare rules p c
  choice_tells c is =
      let made = found compare rules p c is in
      record {
        term = made.term;
        rule = made.match.rule;
        numbered = made.match.numbered;
        greatest = λ i t k greater. no_match 1 rules (get_or p i t).1 (none_above c is i t k greater);
        least = made.match.least;
        leftmost = made.match.leftmost;
      }

  -- a word that can be reduced is not above the chosen one
  not_above : (c d : Choice) → IsChoice compare rules p c → IsChoice compare rules p d → compare c.word d.word ≡ Greater → ⊥
  not_above c d one other greater =
      let nowhere = All-contains (λ t. compare t.1 d.word ≡ Greater → All (λ g. OccursNowhere t.1 g.lead) rules) p (c.coefficient, c.word) other.greatest one.term greater in
      rule_at-all (λ g. OccursNowhere c.word g.lead) rules c.number one.rule one.numbered nowhere c.place one.leftmost.occurs

  one_word : (c d : Choice) → IsChoice compare rules p c → IsChoice compare rules p d → c.word ≡ d.word
  one_word c d one other =
      (elim (compare c.word d.word) as (λ o. compare c.word d.word ≡ o → c.word ≡ d.word) [
        | Less ↦ λ less. absurd (not_above d c other one (laws.total.antisymm d.word c.word ∙ ap ordering_reverse less))
        | Equal ↦ λ level. laws.same c.word d.word level
        | Greater ↦ λ greater. absurd (not_above c d one other greater)
      ]) refl

  not_lesser : (c d : Choice) → IsChoice compare rules p c → IsChoice compare rules p d → c.word ≡ d.word → c.number < d.number → ⊥
  not_lesser c d one other same lesser =
      other.least c.number one.rule one.numbered lesser c.place (subst (λ w. OccursAt w one.rule.lead c.place) same one.leftmost.occurs)

  -- there is only one
  one_choice : (c d : Choice) → IsDescending p → IsChoice compare rules p c → IsChoice compare rules p d → c ≡ d
  one_choice c d descending one other =
      let words = one_word c d one other in
      let coefficients = one_coefficient p descending d.word c.coefficient d.coefficient (subst (λ w. Contains p (c.coefficient, w)) words one.term) other.term in
      let below = not_lesser c d one other words in
      let above = not_lesser d c other one (sym words) in
      let numbers : c.number ≡ d.number = omega (arith, below, above) in
      let same_rule : one.rule ≡ other.rule = same_Some one.rule other.rule (sym one.numbered ∙ ap (rule_at rules) numbers ∙ other.numbered) in
      let places : c.place ≡ d.place = same_Some c.place d.place (
      place_in-is c.word one.rule.lead (Some c.place) one.leftmost
      ∙ ap₂ (λ (w : List ℕ) (g : Rule). place_in w g.lead) words same_rule
      ∙ sym (place_in-is d.word other.rule.lead (Some d.place) other.leftmost)) in
      λ i. record { coefficient = coefficients i; word = words i; number = numbers i; place = places i }

  pub choice_is : (c : Choice) → IsDescending p → IsChoice compare rules p c → choice_of compare (entries_of rules) p ≡ Some c
  choice_is c descending one =
      (elim (choice_of compare (entries_of rules) p) as (λ o. choice_of compare (entries_of rules) p ≡ o → o ≡ Some c) [
        | None ↦ λ none.
            let nowhere = All-contains (λ t. All (λ g. OccursNowhere t.1 g.lead) rules) p (c.coefficient, c.word) (irreducible_where_none compare rules p none) one.term in
            absurd (rule_at-all (λ g. OccursNowhere c.word g.lead) rules c.number one.rule one.numbered nowhere c.place one.leftmost.occurs)
        | Some d ↦ λ chosen. ap Some (one_choice d c descending (choice_tells d chosen) one)
      ]) refl

-- the law
pub choices_are_exact : ChoicesAreExact
choices_are_exact letters compare rank rules p c laws descending = (choice_tells letters compare rank laws rules p c, choice_is letters compare rank laws rules p c descending)
