-- Names of which no two are the same, by a test of whether two are.
use Rattle.block_lines.proofs.Prelude.{◌≡◌, ◌≢◌, ◌<◌, Bool, true, false, List, ◌∷◌, [], ◌++◌, arith, sym, ◌∙◌, length, get_or, AllPairs, list_any, false_from_ne_true, length-append, list_any_none, list_any_at, all_pairs_push, get_or-append, get_or-append_seam}

abbrev pub AreDistinct : {A : Type 0} → List A → Type 0
AreDistinct names = AllPairs (λ x y. x ≢ y) names

module _ {A : Type 0} (test : A → A → Bool) (decides : (x y : A) → (test x y ≡ true → x ≡ y) × (x ≡ y → test x y ≡ true)) where
  -- a name that is not among others
  pub distinct_push : (names : List A) (name : A) → AreDistinct names → list_any (test name) names ≡ false → AreDistinct (names ++ name ∷ [])
  distinct_push names name distinct none =
      all_pairs_push (λ x y. x ≢ y) names name distinct (λ k d within same.
      let there : list_any (test name) names ≡ true = list_any_at (test name) names k d within ((decides name (get_or names k d)).1 (sym same)) in
      absurd (cc))

  -- a name between others
  pub distinct_apart : (front : List A) (name : A) (behind : List A) → AreDistinct (front ++ name ∷ behind) → list_any (test name) front ≡ false
  distinct_apart front name behind distinct =
      list_any_none (test name) front (λ k d within. false_from_ne_true (test name (get_or front k d)) (λ same.
      let count : length front < length (front ++ name ∷ behind) = omega (arith, length-append front (name ∷ behind)) in
      distinct k (length front) d within count
      (get_or-append front (name ∷ behind) d k within ∙ sym ((decides name (get_or front k d)).0 same) ∙ sym (get_or-append_seam front name behind d))))
