-- What is left of a typed polynomial that vanishes between any words, where a monic letter is taken off in front of each word or an epic one behind it, vanishes between any words.
use Rattle.cancel_rules.proofs.Prelude.{◌≡◌, ◌≢◌, ◌⊎◌, inl, inr, ℕ, ◌<◌, ℤ, pos, Bool, true, false, cond, List, [], ◌∷◌, ◌++◌, sym, ap, ap₂, subst, ◌∙◌, eqb-true, append-nil, list_all, Structure, IsArrow, PreadditiveLaws, coefficient_of, SamePolynomial, poly_between, Quiver, IsQuiver, letters, source, target, leads, is_path, IsTyped, Representation, Represents, path_value, HasSignature, linear, linear_in, linear_agree, linear_same, linear-between, additive-linear, at_word, step, split, word_at, word_at_is_arrow, group_at, value_at-linear, path_value-append, between_is_zero, IsMonic, IsEpic, between-nothing}
use Rattle.cancel_rules.proofs.Words.{coefficient_front, coefficient_behind}

-- whether a word has a letter
abbrev pub is_some : List ℕ → Bool
is_some [] = false
is_some (a ∷ w) = true

module _ {Object Arrow : Type 0} {s : Structure Object Arrow} (laws : PreadditiveLaws s) (q : Quiver) (quiver : IsQuiver q) (f : Representation Object Arrow) (rep : Represents s q f) where
  -- the sum of p at the signature (u, v)
  abbrev pub sum_at : ℕ → ℕ → List (ℤ × List ℕ) → Arrow
  sum_at u v p = linear (s.zero (f.object u) (f.object v)) s.add s.negate (word_at laws q f rep u v) p

  -- at each signature and between any two words the polynomial has the sum zero
  abbrev pub IsNothing : List (ℤ × List ℕ) → Type 0
  IsNothing p = (u v : ℕ) → u < q.objects → v < q.objects → (l r : List ℕ) → sum_at u v (poly_between l p r) ≡ s.zero (f.object u) (f.object v)

  pub whole_is_zero : (p : List (ℤ × List ℕ)) → IsNothing p → (u v : ℕ) → u < q.objects → v < q.objects → sum_at u v p ≡ s.zero (f.object u) (f.object v)
  whole_is_zero p nothing u v in_u in_v = ap (sum_at u v) (sym (between-nothing p)) ∙ nothing u v in_u in_v [] []

  module _ (a : ℕ) (in_a : a < letters q) (whole p : List (ℤ × List ℕ)) (has : HasSignature q whole) (words : list_all (λ t. is_some t.1) p ≡ true) where
    letter : IsArrow s (f.object (source q a)) (f.object (target q a)) (f.arrow a)
    letter = rep.arrows a in_a

    in_source : source q a < q.objects
    in_source = quiver.source_is_object a in_a

    in_target : target q a < q.objects
    in_target = quiver.target_is_object a in_a

    -- in front
    module _ (same : SamePolynomial whole (poly_between (a ∷ []) p [])) where
      front_path : (w : List ℕ) → coefficient_of p w ≢ pos 0 → is_path q has.source has.target (a ∷ w) ≡ true
      front_path w c = has.typed.at (a ∷ w) (λ none. c (sym (coefficient_front a p w) ∙ sym (same.at (a ∷ w)) ∙ none))

      front_typed : IsTyped q has.source (source q a) p
      front_typed = record { at = λ w c. go w (front_path w c) (at_word is_some p w words) c }
        where
          go : (w : List ℕ) → is_path q has.source has.target (a ∷ w) ≡ true → (is_some w ≡ true) ⊎ (coefficient_of p w ≡ pos 0) → coefficient_of p w ≢ pos 0 → is_path q has.source (source q a) w ≡ true
          go w path (inr none) c = absurd (c none)
          go [] path (inl some) c = absurd (cc)
          go (b ∷ w) path (inl some) c = (step q has.source has.target a (b ∷ w) path).rest

      front_word : (w : List ℕ) → coefficient_of p w ≢ pos 0 → word_at laws q f rep has.source (target q a) ((a ∷ []) ++ (w ++ [])) ≡ s.compose (f.arrow a) (word_at laws q f rep has.source (source q a) w)
      front_word w c = go w (front_path w c) (front_typed.at w c)
        where
          go : (w : List ℕ) → is_path q has.source has.target (a ∷ w) ≡ true → is_path q has.source (source q a) w ≡ true
              → word_at laws q f rep has.source (target q a) ((a ∷ []) ++ (w ++ [])) ≡ s.compose (f.arrow a) (word_at laws q f rep has.source (source q a) w)
          go [] path inner = absurd (cc)
          go (b ∷ w) path inner =
              let here : leads q has.source (target q a) (a ∷ b ∷ w) ≡ true = subst (λ t. leads q has.source t (a ∷ b ∷ w) ≡ true) (sym (step q has.source has.target a (b ∷ w) path).target) path in
              ap (λ v. word_at laws q f rep has.source (target q a) (a ∷ v)) (append-nil (b ∷ w))
              ∙ ap (λ (c : Bool). cond c (path_value s f a (b ∷ w)) (s.zero (f.object has.source) (f.object (target q a)))) here
              ∙ ap (λ (c : Bool). s.compose (f.arrow a) (cond c (path_value s f b w) (s.zero (f.object has.source) (f.object (source q a))))) (sym inner)

      pub front_is_nothing : IsMonic s (f.arrow a) → IsNothing whole → IsNothing p
      front_is_nothing monic nothing u v in_u in_v l r =
          let G = group_at laws q f rep has.source (target q a) has.source_is_object in_target in
          let H = group_at laws q f rep has.source (source q a) has.source_is_object in_source in
          let outer = word_at_is_arrow laws q f rep has.source (target q a) has.source_is_object in_target in
          let inner = word_at_is_arrow laws q f rep has.source (source q a) has.source_is_object in_source in
          let T : Arrow → Arrow = λ m. s.compose (f.arrow a) m in
          let T_in = λ (m : Arrow) (h : IsArrow s (f.object has.source) (f.object (source q a)) m). laws.compose_is_arrow (f.object has.source) (f.object (source q a)) (f.object (target q a)) (f.arrow a) m letter h in
          let T_add = λ (m n : Arrow) (h : IsArrow s (f.object has.source) (f.object (source q a)) m) (k : IsArrow s (f.object has.source) (f.object (source q a)) n).
          laws.compose_add_right (f.object has.source) (f.object (source q a)) (f.object (target q a)) (f.arrow a) m n letter h k in
          let m : Arrow = sum_at has.source (source q a) p in
          let m_in : IsArrow s (f.object has.source) (f.object (source q a)) m = linear_in H (word_at laws q f rep has.source (source q a)) inner p in
          let value : sum_at has.source (target q a) whole ≡ s.compose (f.arrow a) m =
          linear_same G (word_at laws q f rep has.source (target q a)) outer whole (poly_between (a ∷ []) p []) same
          ∙ linear-between G (word_at laws q f rep has.source (target q a)) outer (a ∷ []) [] p
          ∙ linear_agree G (λ w. word_at laws q f rep has.source (target q a) ((a ∷ []) ++ (w ++ []))) (λ w. T (word_at laws q f rep has.source (source q a) w)) (λ w. outer ((a ∷ []) ++ (w ++ []))) (λ w. T_in (word_at laws q f rep has.source (source q a) w) (inner w)) p front_word
          ∙ sym (additive-linear H G T T_in T_add (word_at laws q f rep has.source (source q a)) inner p) in
          let composed : s.compose (f.arrow a) m ≡ s.zero (s.source m) (s.target (f.arrow a)) =
          sym value ∙ whole_is_zero whole nothing has.source (target q a) has.source_is_object in_target ∙ ap₂ s.zero (sym m_in.source) (sym letter.target) in
          let vanishes : m ≡ s.zero (f.object has.source) (f.object (source q a)) = monic.at m m_in.arrow (m_in.target ∙ sym letter.source) composed ∙ ap₂ s.zero m_in.source m_in.target in
          between_is_zero laws q f rep u v has.source (source q a) in_u in_v has.source_is_object in_source l r p front_typed
          (value_at-linear laws q f rep has.source (source q a) has.source_is_object in_source p ∙ vanishes)

    -- behind
    module _ (same : SamePolynomial whole (poly_between [] p (a ∷ []))) where
      behind_path : (w : List ℕ) → coefficient_of p w ≢ pos 0 → is_path q has.source has.target (w ++ (a ∷ [])) ≡ true
      behind_path w c = has.typed.at (w ++ (a ∷ [])) (λ none. c (sym (coefficient_behind a p w) ∙ sym (same.at (w ++ (a ∷ []))) ∙ none))

      -- the word without its last letter, and that letter
      behind_leads : (b : ℕ) (w : List ℕ) → is_path q has.source has.target ((b ∷ w) ++ (a ∷ [])) ≡ true → (leads q (target q a) has.target (b ∷ w) ≡ true) × (leads q (source q a) (target q a) (a ∷ []) ≡ true)
      behind_leads b w path =
          let parts = split q has.source has.target (b ∷ w) (a ∷ []) path in
          let last = step q has.source parts.middle a [] parts.right in
          let start : has.source ≡ source q a = eqb-true has.source (source q a) last.rest in (
            subst (λ k. leads q k has.target (b ∷ w) ≡ true) (sym last.target) parts.left,
            subst (λ k. leads q (source q a) k (a ∷ []) ≡ true) (sym last.target) (subst (λ k. leads q k parts.middle (a ∷ []) ≡ true) start parts.right),
          )

      behind_typed : IsTyped q (target q a) has.target p
      behind_typed = record { at = λ w c. go w (behind_path w c) (at_word is_some p w words) c }
        where
          go : (w : List ℕ) → is_path q has.source has.target (w ++ (a ∷ [])) ≡ true → (is_some w ≡ true) ⊎ (coefficient_of p w ≡ pos 0) → coefficient_of p w ≢ pos 0 → is_path q (target q a) has.target w ≡ true
          go w path (inr none) c = absurd (c none)
          go [] path (inl some) c = absurd (cc)
          go (b ∷ w) path (inl some) c = (behind_leads b w path).0

      behind_word : (w : List ℕ) → coefficient_of p w ≢ pos 0 → word_at laws q f rep (source q a) has.target ([] ++ (w ++ (a ∷ []))) ≡ s.compose (word_at laws q f rep (target q a) has.target w) (f.arrow a)
      behind_word w c = go w (behind_path w c) (behind_typed.at w c)
        where
          go : (w : List ℕ) → is_path q has.source has.target (w ++ (a ∷ [])) ≡ true → is_path q (target q a) has.target w ≡ true
              → word_at laws q f rep (source q a) has.target ([] ++ (w ++ (a ∷ []))) ≡ s.compose (word_at laws q f rep (target q a) has.target w) (f.arrow a)
          go [] path inner = absurd (cc)
          go (b ∷ w) path inner =
              let ends = behind_leads b w path in
              let last = step q has.source (split q has.source has.target (b ∷ w) (a ∷ []) path).middle a [] (split q has.source has.target (b ∷ w) (a ∷ []) path).right in
              let here : leads q (source q a) has.target (b ∷ (w ++ (a ∷ []))) ≡ true = subst (λ k. leads q k has.target (b ∷ (w ++ (a ∷ []))) ≡ true) (eqb-true has.source (source q a) last.rest) path in
              ap (λ (c : Bool). cond c (path_value s f b (w ++ (a ∷ []))) (s.zero (f.object (source q a)) (f.object has.target))) here
              ∙ path_value-append laws q f rep (source q a) (target q a) has.target b a w [] ends.0 ends.1
              ∙ ap (λ (c : Bool). s.compose (cond c (path_value s f b w) (s.zero (f.object (target q a)) (f.object has.target))) (f.arrow a)) (sym inner)

      pub behind_is_nothing : IsEpic s (f.arrow a) → IsNothing whole → IsNothing p
      behind_is_nothing epic nothing u v in_u in_v l r =
          let G = group_at laws q f rep (source q a) has.target in_source has.target_is_object in
          let H = group_at laws q f rep (target q a) has.target in_target has.target_is_object in
          let outer = word_at_is_arrow laws q f rep (source q a) has.target in_source has.target_is_object in
          let inner = word_at_is_arrow laws q f rep (target q a) has.target in_target has.target_is_object in
          let T : Arrow → Arrow = λ m. s.compose m (f.arrow a) in
          let T_in = λ (m : Arrow) (h : IsArrow s (f.object (target q a)) (f.object has.target) m). laws.compose_is_arrow (f.object (source q a)) (f.object (target q a)) (f.object has.target) m (f.arrow a) h letter in
          let T_add = λ (m n : Arrow) (h : IsArrow s (f.object (target q a)) (f.object has.target) m) (k : IsArrow s (f.object (target q a)) (f.object has.target) n).
          laws.compose_add_left (f.object (source q a)) (f.object (target q a)) (f.object has.target) m n (f.arrow a) h k letter in
          let m : Arrow = sum_at (target q a) has.target p in
          let m_in : IsArrow s (f.object (target q a)) (f.object has.target) m = linear_in H (word_at laws q f rep (target q a) has.target) inner p in
          let value : sum_at (source q a) has.target whole ≡ s.compose m (f.arrow a) =
          linear_same G (word_at laws q f rep (source q a) has.target) outer whole (poly_between [] p (a ∷ [])) same
          ∙ linear-between G (word_at laws q f rep (source q a) has.target) outer [] (a ∷ []) p
          ∙ linear_agree G (λ w. word_at laws q f rep (source q a) has.target ([] ++ (w ++ (a ∷ [])))) (λ w. T (word_at laws q f rep (target q a) has.target w)) (λ w. outer ([] ++ (w ++ (a ∷ [])))) (λ w. T_in (word_at laws q f rep (target q a) has.target w) (inner w)) p behind_word
          ∙ sym (additive-linear H G T T_in T_add (word_at laws q f rep (target q a) has.target) inner p) in
          let composed : s.compose m (f.arrow a) ≡ s.zero (s.source (f.arrow a)) (s.target m) =
          sym value ∙ whole_is_zero whole nothing (source q a) has.target in_source has.target_is_object ∙ ap₂ s.zero (sym letter.source) (sym m_in.target) in
          let vanishes : m ≡ s.zero (f.object (target q a)) (f.object has.target) = epic.at m m_in.arrow (m_in.source ∙ sym letter.target) composed ∙ ap₂ s.zero m_in.source m_in.target in
          between_is_zero laws q f rep u v (target q a) has.target in_u in_v in_target has.target_is_object l r p behind_typed
          (value_at-linear laws q f rep (target q a) has.target in_target has.target_is_object p ∙ vanishes)
