-- descending lists of terms, and the coefficients of words between them
use Rattle.cofactor_checker.proofs.Prelude.{◌≡◌, ℕ, suc, ◌+◌, ℤ, ◌+ℤ◌, false, List, [], ◌∷◌, ◌++◌, length, get_or, sym, refl, ap, ap₂, ◌∙◌, subst, arith, All, AllByRecursion, is_eq, Less, Greater, ints, get_or_append_left, get_or_at, get_or-append-add, length-append, word_cmp, word_cmp-turned_back, word_eq, coefficient_of, word_eq-same, coefficient_of-append, IsDescending, word_eq-cmp, none_listed}
use Rattle.definitions.proofs.Linear.{coefficient_at}

pub apart_less : (v w : List ℕ) → word_cmp v w ≡ Less → word_eq v w ≡ false
apart_less v w less = word_eq-cmp v w ∙ ap is_eq less

pub apart_greater : (v w : List ℕ) → word_cmp v w ≡ Greater → word_eq v w ≡ false
apart_greater v w greater = word_eq-cmp v w ∙ ap is_eq greater

pub weaker : {X : Type 0} {P Q : X → Type 0} → ((x : X) → P x → Q x) → (xs : List X) → AllByRecursion P xs → AllByRecursion Q xs
weaker f [] all = tt
weaker f (x ∷ xs) all = (f x all.0, weaker f xs all.1)

module _ (p : List (ℤ × List ℕ)) (t : ℤ × List ℕ) (q : List (ℤ × List ℕ)) (descending : IsDescending (p ++ t ∷ q)) where
  -- what stands before a term is above it
  pub above : All (λ u. word_cmp u.1 t.1 ≡ Greater) p
  above k d inside =
      let at : word_cmp (get_or (p ++ t ∷ q) k d).1 (get_or (p ++ t ∷ q) (length p) d).1 ≡ Greater = descending k (length p) d inside (omega (arith, length-append p (t ∷ q))) in
      sym (ap₂ (λ x y. word_cmp x.1 y.1) (get_or_append_left p (t ∷ q) d k inside) (get_or_at p t q d (length p) refl)) ∙ at

  -- what stands behind it is below it
  pub below : All (λ u. word_cmp u.1 t.1 ≡ Less) q
  below k d inside =
      let at : word_cmp (get_or (p ++ t ∷ q) (length p) d).1 (get_or (p ++ t ∷ q) (length p + suc k) d).1 ≡ Greater =
      descending (length p) (length p + suc k) d (omega arith) (omega (arith, length-append p (t ∷ q))) in
      word_cmp-turned_back t.1 (get_or q k d).1 (sym (ap₂ (λ x y. word_cmp x.1 y.1) (get_or_at p t q d (length p) refl) (get_or-append-add p (t ∷ q) (suc k) d)) ∙ at)

  -- so its coefficient is that of its word
  pub coefficient_there : coefficient_of (p ++ t ∷ q) t.1 ≡ t.0
  coefficient_there =
      coefficient_of-append p (t ∷ q) t.1
      ∙ ap₂ ◌+ℤ◌ (none_listed t.1 p (λ k d inside. apart_greater (get_or p k d).1 t.1 (above k d inside)))
      (coefficient_at t.1 t q (word_eq-same t.1) ∙ ap (λ k. t.0 +ℤ k) (none_listed t.1 q (λ k d inside. apart_less (get_or q k d).1 t.1 (below k d inside))))
      ∙ omega (arith, ints)

-- what holds of all terms holds of one between others
pub holds_between : (P : ℤ × List ℕ → Type 0) (p : List (ℤ × List ℕ)) (t : ℤ × List ℕ) (q : List (ℤ × List ℕ)) → All P (p ++ t ∷ q) → P t
holds_between P p t q all = subst P (get_or_at p t q t (length p) refl) (all (length p) t (omega (arith, length-append p (t ∷ q))))
