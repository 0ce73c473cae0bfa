-- In the canonical order the first term that can be reduced is the greatest one.
use Rattle.rule_reduce.proofs.Prelude.{◌≡◌, ℕ, zero, suc, List, [], ◌∷◌, ◌<◌, length, take, drop, get_or, Option, Some, None, IfSome, IfNone, refl, sym, ap, ap₂, subst, ◌∙◌, arith, get_or-take, length-take, All, All-tail, ordering_then, nat_cmp, Greater, Term, word_cmp, word_cmp-turned_back, by_order, match_of, Compare, measured_cmp, Choice, choice_or, choice_from, IsPlain, IsSettled}
use Rattle.rule_reduce.proofs.BetterChoices.{holds-better}

-- an order by measures that are all 0 is the canonical one
pub plain_order : (compare : Compare) (measure : List ℕ → ℕ) → ((u v : List ℕ) → compare u v ≡ measured_cmp measure u v) → ((w : List ℕ) → measure w ≡ 0) → IsPlain compare
plain_order compare measure by_measure none u v = by_measure u v ∙ ap₂ (λ m n. ordering_then (nat_cmp m n) (word_cmp u v)) (none u) (none v)

module _ (compare : Compare) (entries : List (List ℕ × ℕ)) where
  -- terms that cannot be reduced are passed over
  pub passed_by : (n : ℕ) (p : List Term) → All (λ t. match_of entries t.1 ≡ None) (take n p) → choice_from compare entries None (drop n p) ≡ choice_from compare entries None p
  passed_by zero p settled = refl
  passed_by (suc n) [] settled = refl
  passed_by (suc n) (t ∷ p) settled = passed_by n p (All-tail (λ (u : Term). match_of entries u.1 ≡ None) t (take n p) settled) ∙ ap (λ m. choice_from compare entries (choice_or t m None) p) (sym (settled 0 t (omega arith)))

  -- terms that are below the choice do not change it
  pub first_stays : IsPlain compare → (c : Choice) (p : List Term) → All (λ t. word_cmp c.word t.1 ≡ Greater) p → choice_from compare entries (Some c) p ≡ Some c
  first_stays plain c [] below = refl
  first_stays plain c (t ∷ p) below =
      ap (λ o. choice_from compare entries (by_order o (Some c) (Some c) (choice_or t (match_of entries t.1) (Some c))) p) (plain t.1 c.word ∙ word_cmp-turned_back c.word t.1 (below 0 t (omega arith)))
      ∙ first_stays plain c p (All-tail (λ (u : Term). word_cmp c.word u.1 ≡ Greater) t p below)

  -- what holds of a choice by each term holds of the choice
  pub holds-choice : (P : Choice → Type 0) (p : List Term) (best : Option Choice) → All (λ t. (m : ℕ × ℕ) → P (record { coefficient = t.0; word = t.1; number = m.0; place = m.1 })) p
      → IfSome best P → IfSome (choice_from compare entries best p) P
  holds-choice P [] best each held = held
  holds-choice P (t ∷ p) best each held =
      holds-choice P p _ (All-tail (λ (u : Term). (m : ℕ × ℕ) → P (record { coefficient = u.0; word = u.1; number = m.0; place = m.1 })) t p each) (holds-better P compare entries t (each 0 t (omega arith)) best held)

-- The first terms are above the last word, if there is one, and so they are settled.
pub settled_front : {X : Type 0} (compare : Compare) (entries : List (List ℕ × ℕ)) → IsPlain compare → (word : X → List ℕ) (last : Option X) (p : List Term) (n : ℕ)
    → IfSome last (λ x. All (λ t. word_cmp t.1 (word x) ≡ Greater) (take n p)) → IfNone last (n ≡ 0) → IfSome last (λ x. All (λ t. IsSettled compare entries (word x) t.1) p)
    → All (λ t. match_of entries t.1 ≡ None) (take n p)
settled_front compare entries plain word None p n above none settled = λ k d below. absurd (omega (arith, below, length-take n p, none))
settled_front compare entries plain word (Some x) p n above none settled = λ k d below.
    let size = length-take n p in
    let front : k < n = omega (arith, below, size) in
    let inside : k < length p = omega (arith, below, size) in
    let same = get_or-take n p k d front in
    subst (λ (t : Term). match_of entries t.1 ≡ None) (sym same)
    (settled k d inside (plain (get_or p k d).1 (word x) ∙ ap (λ (t : Term). word_cmp t.1 (word x)) (sym same) ∙ above k d below))
