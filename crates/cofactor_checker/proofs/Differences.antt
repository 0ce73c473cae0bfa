-- Two polynomials are the same, or there is a least word at which they differ, and one alone.
use Rattle.cofactor_checker.proofs.Prelude.{◌≡◌, ◌≢◌, ◌⊎◌, inl, inr, ℕ, ℤ, pos, List, [], ◌∷◌, ◌++◌, Bool, true, false, refl, sym, subst, ap, ◌∙◌, true≢false, AllByRecursion, int_eq, Ordering, Less, Equal, Greater, Decides-int_eq, word_cmp, word_cmp-cases, word_cmp-itself, word_cmp-turned, word_cmp-turned_back, word_cmp-trans, word_eq, coefficient_of, SamePolynomial, word_eq-true, coefficient_other, HasOneOutcome, IsLeastDifference, IsMemory, Refusal}
use Rattle.cofactor_checker.specs.declared.refusal.Refusal.TheVariants as refusal

-- the coefficient at a word is zero, or the word is one of the terms'
at_term : (Q : List ℕ → Type 0) (p : List (ℤ × List ℕ)) (w : List ℕ) → AllByRecursion (λ t. Q t.1) p → (coefficient_of p w ≡ pos 0) ⊎ Q w
at_term Q [] w all = inl refl
at_term Q (t ∷ p) w all = by (word_eq t.1 w) refl (at_term Q p w all.1)
  where
    by : (b : Bool) → word_eq t.1 w ≡ b → (coefficient_of p w ≡ pos 0) ⊎ Q w → (coefficient_of (t ∷ p) w ≡ pos 0) ⊎ Q w
    by true is rest = inr (subst Q (word_eq-true t.1 w is) all.0)
    by false is (inl none) = inl (coefficient_other w t p is ∙ none)
    by false is (inr holds) = inr holds

module _ (f g : List ℕ → ℤ) where
  -- no word of the list below this one differs
  abbrev AgreesBelow : List ℕ → List ℕ → Type 0
  AgreesBelow least w = word_cmp w least ≡ Less → f w ≡ g w

  -- the words of terms agree, or one is the least that doesn't
  data Search (ts : List (ℤ × List ℕ)) : Type 0 where
    none_differs : AllByRecursion (λ t. f t.1 ≡ g t.1) ts → Search ts
    differs_at : (least : List ℕ) → f least ≢ g least → AllByRecursion (λ t. AgreesBelow least t.1) ts → Search ts

  all-map : (P Q : List ℕ → Type 0) → ((w : List ℕ) → P w → Q w) → (ts : List (ℤ × List ℕ)) → AllByRecursion (λ t. P t.1) ts → AllByRecursion (λ t. Q t.1) ts
  all-map P Q weaker [] all = tt
  all-map P Q weaker (t ∷ ts) all = (weaker t.1 all.0, all-map P Q weaker ts all.1)

  not_below_itself : (w : List ℕ) → word_cmp w w ≡ Less → ⊥
  not_below_itself w below = let both : (let o : Ordering = Equal in o) ≡ Less = sym (word_cmp-itself w) ∙ below in absurd cc

  search_on : (t : ℤ × List ℕ) (ts : List (ℤ × List ℕ)) → Search ts → Search (t ∷ ts)
  search_on t ts found = by_equal (int_eq (f t.1) (g t.1)) refl found
    where
      by_order : (o : Ordering) (least : List ℕ) → word_cmp t.1 least ≡ o → f t.1 ≢ g t.1 → f least ≢ g least → AllByRecursion (λ u. AgreesBelow least u.1) ts → Search (t ∷ ts)
      by_order Less least is here there below =
          differs_at t.1 here ((λ under. absurd (not_below_itself t.1 under)), all-map (AgreesBelow least) (AgreesBelow t.1) (λ w agrees under. agrees (word_cmp-turned_back least w (word_cmp-trans least t.1 w (word_cmp-turned t.1 least is) (word_cmp-turned w t.1 under)))) ts below)
      by_order Equal least is here there below = differs_at least there ((λ under. let both : (let o : Ordering = Less in o) ≡ Equal = sym under ∙ is in absurd cc), below)
      by_order Greater least is here there below = differs_at least there ((λ under. let both : (let o : Ordering = Less in o) ≡ Greater = sym under ∙ is in absurd cc), below)

      by_equal : (b : Bool) → int_eq (f t.1) (g t.1) ≡ b → Search ts → Search (t ∷ ts)
      by_equal true is (none_differs all) = none_differs ((Decides-int_eq (f t.1) (g t.1)).0 is, all)
      by_equal true is (differs_at least there below) = differs_at least there ((λ under. (Decides-int_eq (f t.1) (g t.1)).0 is), below)
      by_equal false is (none_differs all) =
          differs_at t.1 (λ same. true≢false (sym ((Decides-int_eq (f t.1) (g t.1)).1 same) ∙ is)) ((λ under. absurd (not_below_itself t.1 under)), all-map (λ w. f w ≡ g w) (AgreesBelow t.1) (λ w agrees under. agrees) ts all)
      by_equal false is (differs_at least there below) = by_order (word_cmp t.1 least) least refl (λ same. true≢false (sym ((Decides-int_eq (f t.1) (g t.1)).1 same) ∙ is)) there below

  search_terms : (ts : List (ℤ × List ℕ)) → Search ts
  search_terms [] = none_differs tt
  search_terms (t ∷ ts) = search_on t ts (search_terms ts)

all-front : {X : Type 0} (P : X → Type 0) (xs ys : List X) → AllByRecursion P (xs ++ ys) → AllByRecursion P xs
all-front P [] ys all = tt
all-front P (x ∷ xs) ys all = (all.0, all-front P xs ys all.1)

all-back : {X : Type 0} (P : X → Type 0) (xs ys : List X) → AllByRecursion P (xs ++ ys) → AllByRecursion P ys
all-back P [] ys all = all
all-back P (x ∷ xs) ys all = all-back P xs ys all.1

-- what holds of the words of both holds of each word at which they could differ
both_zero : (Q : List ℕ → Type 0) (p q : List (ℤ × List ℕ)) → ((w : List ℕ) → coefficient_of p w ≡ coefficient_of q w → Q w) → AllByRecursion (λ t. Q t.1) (p ++ q) → (w : List ℕ) → Q w
both_zero Q p q same all w = by (at_term Q p w (all-front (λ t. Q t.1) p q all)) (at_term Q q w (all-back (λ t. Q t.1) p q all))
  where
    by : (coefficient_of p w ≡ pos 0) ⊎ Q w → (coefficient_of q w ≡ pos 0) ⊎ Q w → Q w
    by (inr holds) other = holds
    by (inl none) (inr holds) = holds
    by (inl none) (inl none') = same w (none ∙ sym none')

-- two polynomials are the same, or there is a least word at which they differ
data Compared (wanted found : List (ℤ × List ℕ)) : Type 0 where
  agree : SamePolynomial found wanted → Compared wanted found
  differ : (word : List ℕ) → IsLeastDifference (coefficient_of wanted) (coefficient_of found) word (coefficient_of wanted word) (coefficient_of found word) → Compared wanted found

compared : (wanted found : List (ℤ × List ℕ)) → Compared wanted found
compared wanted found = by (search_terms (coefficient_of wanted) (coefficient_of found) (wanted ++ found))
  where
    by : Search (coefficient_of wanted) (coefficient_of found) (wanted ++ found) → Compared wanted found
    by (none_differs all) = agree (record { at = λ w. sym (both_zero (λ v. coefficient_of wanted v ≡ coefficient_of found v) wanted found (λ v agrees. agrees) all w) })
    by (differs_at least there below) = differ least (record {
      wanted_there = refl;
      found_there = refl;
      differ = there;
      least = both_zero (AgreesBelow (coefficient_of wanted) (coefficient_of found) least) wanted found (λ v agrees under. agrees) below;
    })

-- what is told of two that differ
pub record TellsDifference (wanted found : List (ℤ × List ℕ)) (e : Refusal) : Type 0 where
  pub word : List ℕ
  pub want : ℤ
  pub got : ℤ
  pub is : e ≡ refusal.Differs word want got
  pub least : IsLeastDifference (coefficient_of wanted) (coefficient_of found) word want got

module _ (wanted found : List (ℤ × List ℕ)) where
  never_same : (e : Refusal) → TellsDifference wanted found e → SamePolynomial found wanted → ⊥
  never_same e h same = h.least.differ (sym h.least.wanted_there ∙ sym (same.at h.word) ∙ h.least.found_there)

  -- the least word is one, and has one coefficient in each
  difference_is_one : (e f : Refusal) → TellsDifference wanted found e → TellsDifference wanted found f → e ≡ f
  difference_is_one e f h k = go (word_cmp-cases h.word k.word)
    where
      go : (h.word ≡ k.word) ⊎ ((word_cmp h.word k.word ≡ Less) ⊎ (word_cmp k.word h.word ≡ Less)) → e ≡ f
      go (inl same) =
          let wants : h.want ≡ k.want = sym h.least.wanted_there ∙ ap (coefficient_of wanted) same ∙ k.least.wanted_there in
          let gots : h.got ≡ k.got = sym h.least.found_there ∙ ap (coefficient_of found) same ∙ k.least.found_there in
          h.is ∙ (λ i. refusal.Differs (same i) (wants i) (gots i)) ∙ sym k.is
      go (inr (inl less)) = absurd (h.least.differ (sym h.least.wanted_there ∙ k.least.least h.word less ∙ h.least.found_there))
      go (inr (inr greater)) = absurd (k.least.differ (sym k.least.wanted_there ∙ h.least.least k.word greater ∙ k.least.found_there))

  pub difference_outcome : HasOneOutcome IsMemory (SamePolynomial found wanted) (TellsDifference wanted found)
  difference_outcome = record { judged = by (compared wanted found); not_refused = λ same e h. absurd (never_same e h same); unique = λ e f h k not not'. difference_is_one e f h k }
    where
      by : Compared wanted found → SamePolynomial found wanted ⊎ ((e : Refusal) × TellsDifference wanted found e × (IsMemory e → ⊥))
      by (agree is) = inl is
      by (differ word least) =
          inr (refusal.Differs word (coefficient_of wanted word) (coefficient_of found word), record { word = word; want = coefficient_of wanted word; got = coefficient_of found word; is = refl; least = least }, λ none. none)
