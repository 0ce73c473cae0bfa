-- Strictly descending lists with no zero coefficient: two that are the same as polynomials are one list.
use Rattle.std.proofs.Common.{◌≡◌, ◌≢◌, ℕ, ℤ, pos, ◌+ℤ◌, Bool, true, false, List, [], ◌∷◌, ◌⊎◌, inl, inr, sym, refl, ap, ap₂, subst, ◌∙◌, true≢false}
use Rattle.std.proofs.Math.IntN.{+ℤ_idr}
use Rattle.std.proofs.lemmas.Bool.{false_from_ne_true}
use Rattle.std.specs.List.{AllByRecursion}
use Rattle.definitions.specs.Poly.{word_eq, coefficient_of, SamePolynomial}
use Rattle.definitions.proofs.Linear.{word_eq-same, word_eq-true, coefficient_at, coefficient_other}

-- what is asked of the order
pub record IsStrictOrder (below : List ℕ → List ℕ → Bool) : Type 0 where
  pub irreflexive : (w : List ℕ) → below w w ≡ false
  pub transitive : (u v w : List ℕ) → below u v ≡ true → below v w ≡ true → below u w ≡ true
  pub total : (v w : List ℕ) → (v ≡ w) ⊎ ((below v w ≡ true) ⊎ (below w v ≡ true))

-- each word is above all later words, and no coefficient is zero
pub record IsHead (below : List ℕ → List ℕ → Bool) (t : ℤ × List ℕ) (p : List (ℤ × List ℕ)) : Type 0 where
  pub nonzero : t.0 ≢ pos 0
  pub above : AllByRecursion (λ u. below u.1 t.1 ≡ true) p

abbrev pub IsCanonical : (List ℕ → List ℕ → Bool) → List (ℤ × List ℕ) → Type 0
IsCanonical below [] = Unit {0}
IsCanonical below (t ∷ p) = IsHead below t p × IsCanonical below p

module _ {below : List ℕ → List ℕ → Bool} (order : IsStrictOrder below) where
  apart : (v w : List ℕ) → below v w ≡ true → word_eq v w ≡ false
  apart v w h = false_from_ne_true (word_eq v w) (λ e. true≢false (sym h ∙ ap (λ x. below x w) (word_eq-true v w e) ∙ order.irreflexive w))

  -- a word that is above all others has no coefficient
  none_above : (w : List ℕ) (p : List (ℤ × List ℕ)) → AllByRecursion (λ u. below u.1 w ≡ true) p → coefficient_of p w ≡ pos 0
  none_above w [] h = refl
  none_above w (t ∷ p) h = coefficient_other w t p (apart t.1 w h.0) ∙ none_above w p h.1

  above_more : (v w : List ℕ) (p : List (ℤ × List ℕ)) → below v w ≡ true → AllByRecursion (λ u. below u.1 v ≡ true) p → AllByRecursion (λ u. below u.1 w ≡ true) p
  above_more v w [] e h = tt
  above_more v w (t ∷ p) e h = (order.transitive t.1 v w h.0 e, above_more v w p e h.1)

  head_coefficient : (t : ℤ × List ℕ) (p : List (ℤ × List ℕ)) → IsHead below t p → coefficient_of (t ∷ p) t.1 ≡ t.0
  head_coefficient t p h = coefficient_at t.1 t p (word_eq-same t.1) ∙ ap (λ k. t.0 +ℤ k) (none_above t.1 p h.above) ∙ +ℤ_idr t.0

  rests_same : (t : ℤ × List ℕ) (p q : List (ℤ × List ℕ)) → IsHead below t p → IsHead below t q → SamePolynomial (t ∷ p) (t ∷ q) → SamePolynomial p q
  rests_same t p q h k same = record { at = λ w. go w (word_eq t.1 w) refl }
    where
      go : (w : List ℕ) (b : Bool) → word_eq t.1 w ≡ b → coefficient_of p w ≡ coefficient_of q w
      go w true e =
          let is = word_eq-true t.1 w e in
          ap (coefficient_of p) (sym is) ∙ none_above t.1 p h.above ∙ sym (ap (coefficient_of q) (sym is) ∙ none_above t.1 q k.above)
      go w false e = sym (coefficient_other w t p e) ∙ same.at w ∙ coefficient_other w t q e

  -- a head that the other list is below is a contradiction
  no_higher : (t s : ℤ × List ℕ) (p q : List (ℤ × List ℕ)) → IsHead below t p → IsHead below s q → SamePolynomial (t ∷ p) (s ∷ q) → below s.1 t.1 ≡ true → ⊥
  no_higher t s p q h k same e =
      h.nonzero (sym (head_coefficient t p h) ∙ same.at t.1 ∙ none_above t.1 (s ∷ q) (e, above_more s.1 t.1 q e k.above))

  pub canonical_unique : (p q : List (ℤ × List ℕ)) → IsCanonical below p → IsCanonical below q → SamePolynomial p q → p ≡ q
  canonical_unique [] [] h k same = refl
  canonical_unique [] (s ∷ q) h k same = absurd (k.0.nonzero (sym (head_coefficient s q k.0) ∙ sym (same.at s.1)))
  canonical_unique (t ∷ p) [] h k same = absurd (h.0.nonzero (sym (head_coefficient t p h.0) ∙ same.at t.1))
  canonical_unique (t ∷ p) (s ∷ q) h k same = go (order.total t.1 s.1) (canonical_unique p q h.1 k.1)
    where
      go : (t.1 ≡ s.1) ⊎ ((below t.1 s.1 ≡ true) ⊎ (below s.1 t.1 ≡ true)) → (SamePolynomial p q → p ≡ q) → ◌≡◌ {A = List (ℤ × List ℕ)} (t ∷ p) (s ∷ q)
      go (inr (inl e)) rest = absurd (no_higher s t q p k.0 h.0 (record { at = λ w. sym (same.at w) }) e)
      go (inr (inr e)) rest = absurd (no_higher t s p q h.0 k.0 same e)
      go (inl e) rest =
          let first : t.0 ≡ s.0 =
          sym (head_coefficient t p h.0) ∙ same.at t.1 ∙ ap (coefficient_of (s ∷ q)) e ∙ head_coefficient s q k.0 in
          let whole : t ≡ s = λ i. (first i, e i) in
          ap₂ ◌∷◌ whole (rest (rests_same t p q h.0 (subst (λ x. IsHead below x q) (sym whole) k.0) (subst (λ x. SamePolynomial (t ∷ p) (x ∷ q)) (sym whole) same)))
