-- Each polynomial is typed or not.
use Rattle.cancel_rules.proofs.Prelude.{◌≡◌, ◌⊎◌, inl, inr, ℕ, ◌<◌, ◌≤◌, Bool, true, false, List, [], ◌∷◌, Option, Some, None, refl, sym, ap, subst, ◌∙◌, arith, cases_lt, All-nil, All-head, Term, Quiver, is_path, signature_of, IsTyped, HasSignature, signature_from_path, collected, coefficient_of-collected, descending-collected, nonzero-collected, distinct-descending, words_listed, typed_from_paths, each_decided, All}

module _ (q : Quiver) where
  -- each word is a path from u to v, or one isn't
  abbrev ArePaths : ℕ → ℕ → List Term → Type 0
  ArePaths u v p = All (λ t. is_path q u v t.1 ≡ true) p

  paths_or : (u v : ℕ) (p : List Term) → ArePaths u v p ⊎ (ArePaths u v p → ⊥)
  paths_or u v p = each_decided (λ t. is_path q u v t.1 ≡ true) (λ t. by (is_path q u v t.1)) p
    where
      by : (b : Bool) → (b ≡ true) ⊎ (b ≡ true → ⊥)
      by true = inl refl
      by false = inr (λ is. cc)

  module _ (p : List Term) where
    paths_from : (u v : ℕ) → IsTyped q u v p → ArePaths u v (collected p)
    paths_from u v typed =
        words_listed (λ w. is_path q u v w ≡ true) (collected p) (distinct-descending (collected p) (descending-collected p)) (nonzero-collected p)
        (λ w there. typed.at w (λ none. there (coefficient_of-collected p w ∙ none)))

    typed_from : (u v : ℕ) → ArePaths u v (collected p) → IsTyped q u v p
    typed_from u v paths =
        let typed : IsTyped q u v (collected p) = typed_from_paths q u v (collected p) paths in
        record { at = λ w there. typed.at w (λ none. there (sym (coefficient_of-collected p w) ∙ none)) }

    -- zero is typed where there is an object
    of_zero : collected p ≡ [] → (0 < q.objects) ⊎ (q.objects ≤ 0) → HasSignature q p ⊎ (HasSignature q p → ⊥)
    of_zero zero (inl some) = inl (record { source = 0; target = 0; source_is_object = some; target_is_object = some; typed = typed_from 0 0 (subst (ArePaths 0 0) (sym zero) (All-nil _)) })
    of_zero zero (inr none) = inr (λ has. let inside = has.source_is_object in absurd (omega arith))

    -- the signature of the first word is the only one
    ends_are : (t : Term) (rest : List Term) → collected p ≡ t ∷ rest → (has : HasSignature q p) → signature_of q t.1 ≡ Some (has.source, has.target)
    ends_are t rest is has =
        let paths = subst (ArePaths has.source has.target) is (paths_from has.source has.target has.typed) in
        signature_from_path q has.source has.target t.1 (All-head (λ u. is_path q has.source has.target u.1 ≡ true) t rest paths)

    of_first : (t : Term) (rest : List Term) → collected p ≡ t ∷ rest → (o : Option (ℕ × ℕ)) → signature_of q t.1 ≡ o → HasSignature q p ⊎ (HasSignature q p → ⊥)
    of_first t rest is None none = inr (λ has. apart (signature_of q t.1) has.source has.target none (ends_are t rest is has))
      where
        apart : (o : Option (ℕ × ℕ)) (u v : ℕ) → o ≡ None → o ≡ Some (u, v) → ⊥
        apart o u v none some = absurd (cc)
    of_first t rest is (Some s) some = by (cases_lt s.0 q.objects) (cases_lt s.1 q.objects) (paths_or s.0 s.1 (collected p))
      where
        same : (has : HasSignature q p) → ◌≡◌ {A = ℕ × ℕ} s (has.source, has.target)
        same has =
            let both : Some s ≡ Some (has.source, has.target) = sym some ∙ ends_are t rest is has in
            cc

        by : (s.0 < q.objects) ⊎ (q.objects ≤ s.0) → (s.1 < q.objects) ⊎ (q.objects ≤ s.1)
            → ArePaths s.0 s.1 (collected p) ⊎ (ArePaths s.0 s.1 (collected p) → ⊥)
            → HasSignature q p ⊎ (HasSignature q p → ⊥)
        by (inl u_in) (inl v_in) (inl paths) = inl (record { source = s.0; target = s.1; source_is_object = u_in; target_is_object = v_in; typed = typed_from s.0 s.1 paths })
        by (inl u_in) (inl v_in) (inr none) =
            inr (λ has. none (subst (λ (e : ℕ × ℕ). ArePaths e.0 e.1 (collected p)) (sym (same has)) (paths_from has.source has.target has.typed)))
        by (inl u_in) (inr past) paths = inr (λ has. let inside = has.target_is_object in let is = ap (λ (e : ℕ × ℕ). e.1) (same has) in absurd (omega arith))
        by (inr past) v_in paths = inr (λ has. let inside = has.source_is_object in let is = ap (λ (e : ℕ × ℕ). e.0) (same has) in absurd (omega arith))

    by_terms : (c : List Term) → collected p ≡ c → HasSignature q p ⊎ (HasSignature q p → ⊥)
    by_terms [] is = of_zero is (cases_lt 0 q.objects)
    by_terms (t ∷ rest) is = of_first t rest is (signature_of q t.1) refl

    pub has_signature_or : HasSignature q p ⊎ (HasSignature q p → ⊥)
    has_signature_or = by_terms (collected p) refl
