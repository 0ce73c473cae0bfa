-- Terms with different words.
use Rattle.std.proofs.Common.{◌≡◌, ◌≢◌, ◌++◌, ℕ, pos, ◌+ℤ◌, false, List, [], ◌∷◌, get_or, sym, refl, ap, subst, ◌∙◌, arith, inl, inr}
use Rattle.std.proofs.Math.IntN.{+ℤ_idr}
use Rattle.std.proofs.lemmas.Bool.{cases_Bool}
use Rattle.std.proofs.lemmas.List.Elements.{All-nil, All-cons, All-tail}
use Rattle.std.specs.List.{All}
use Rattle.std.specs.Ordering.{is_eq}
use Rattle.definitions.proofs.Linear.{word_eq-same, word_eq-true, coefficient_at, coefficient_other}
use Rattle.definitions.specs.Poly.{Term, word_eq, coefficient_of}
use Rattle.coef_int.specs.Range.{IsCoefficient}
use Rattle.nc_polynomial.proofs.Shapes.{Descends, IsInRange, IsNonzero, over-front}
use Rattle.nc_polynomial.proofs.Words.{word_eq-cmp, word_eq-turned}

-- no word occurs twice
abbrev pub AreDistinct : List Term → Type 0
AreDistinct [] = Unit {0}
AreDistinct (t ∷ p) = All (λ u. word_eq u.1 t.1 ≡ false) p × AreDistinct p

-- a word that isn't listed has the coefficient zero
pub none_listed : (w : List ℕ) (p : List Term) → All (λ u. word_eq u.1 w ≡ false) p → coefficient_of p w ≡ pos 0
none_listed w [] h = refl
none_listed w (t ∷ p) h = coefficient_other w t p (h 0 t (omega arith)) ∙ none_listed w p (All-tail (λ (u : Term). word_eq u.1 w ≡ false) t p h)

pub first_coefficient : (t : Term) (p : List Term) → All (λ u. word_eq u.1 t.1 ≡ false) p → coefficient_of (t ∷ p) t.1 ≡ t.0
first_coefficient t p h = coefficient_at t.1 t p (word_eq-same t.1) ∙ ap (λ k. t.0 +ℤ k) (none_listed t.1 p h) ∙ +ℤ_idr t.0

-- where the coefficient of each word is in range, so is the integer beside each word
pub ranged-distinct : (p : List Term) → AreDistinct p → ((w : List ℕ) → IsCoefficient (coefficient_of p w)) → All (λ t. IsCoefficient t.0) p
ranged-distinct [] d h = All-nil IsInRange
ranged-distinct (t ∷ p) d h = All-cons IsInRange t p (subst IsCoefficient (first_coefficient t p d.0) (h t.1)) (ranged-distinct p d.1 (λ w. elim (cases_Bool (word_eq t.1 w)) [
  | inl e ↦
      let none : coefficient_of p w ≡ pos 0 = ap (coefficient_of p) (sym (word_eq-true t.1 w e)) ∙ none_listed t.1 p d.0 in
      let zero_in : IsCoefficient (pos 0) = omega arith in
      subst IsCoefficient (sym none) zero_in
  | inr e ↦ subst IsCoefficient (coefficient_other w t p e) (h w)
]))

pub distinct-descending : (p : List Term) → Descends p → AreDistinct p
distinct-descending [] d = tt
distinct-descending (t ∷ p) d = (λ i x h. word_eq-turned (get_or p i x).1 t.1 ∙ word_eq-cmp t.1 (get_or p i x).1 ∙ ap is_eq (d.0 i x h), distinct-descending p d.1)

pub ranged-descending : (p : List Term) → Descends p → ((w : List ℕ) → IsCoefficient (coefficient_of p w)) → All (λ t. IsCoefficient t.0) p
ranged-descending p d = ranged-distinct p (distinct-descending p d)

pub apart-before : (front : List Term) (t : Term) (rest : List Term) → Descends (front ++ t ∷ rest) → All (λ u. word_eq u.1 t.1 ≡ false) front
apart-before front t rest d i x h = word_eq-cmp (get_or front i x).1 t.1 ∙ ap is_eq (over-front front t rest d i x h)

-- where the integers beside the words are in range, so is each coefficient
pub coefficient-ranged : (p : List Term) → AreDistinct p → All (λ t. IsCoefficient t.0) p → (w : List ℕ) → IsCoefficient (coefficient_of p w)
coefficient-ranged [] d h w = omega arith
coefficient-ranged (t ∷ p) d h w = elim (cases_Bool (word_eq t.1 w)) [
  | inl e ↦ subst IsCoefficient (sym (ap (coefficient_of (t ∷ p)) (sym (word_eq-true t.1 w e)) ∙ first_coefficient t p d.0)) (h 0 t (omega arith))
  | inr e ↦ subst IsCoefficient (sym (coefficient_other w t p e)) (coefficient-ranged p d.1 (All-tail IsInRange t p h) w)
]

-- what holds of each word with a coefficient holds of each word in the list
pub words_listed : (P : List ℕ → Type 0) (p : List Term) → AreDistinct p → All (λ t. t.0 ≢ pos 0) p → ((w : List ℕ) → coefficient_of p w ≢ pos 0 → P w) → All (λ t. P t.1) p
words_listed P [] d h each = All-nil (λ (t : Term). P t.1)
words_listed P (t ∷ p) d h each =
    All-cons (λ (u : Term). P u.1) t p (each t.1 (λ e. h 0 t (omega arith) (sym (first_coefficient t p d.0) ∙ e)))
    (words_listed P p d.1 (All-tail IsNonzero t p h) (λ w there. each w (λ e. there (elim (cases_Bool (word_eq t.1 w)) [
      | inl same ↦ ap (coefficient_of p) (sym (word_eq-true t.1 w same)) ∙ none_listed t.1 p d.0
      | inr other ↦ sym (coefficient_other w t p other) ∙ e
    ]))))
