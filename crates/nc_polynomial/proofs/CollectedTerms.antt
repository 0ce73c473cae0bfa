-- The sum of terms in any order.
use Rattle.nc_polynomial.proofs.Prelude.{◌≡◌, ◌≢◌, ℕ, ◌+◌, ℤ, pos, ◌+ℤ◌, Bool, true, false, cond, List, [], ◌∷◌, ◌++◌, take, drop, None, sym, refl, ap, ap₂, subst, ◌∙◌, arith, ints, +ℤ_idr, All, All-nil, IsCoefficient, sum_of, first_overflow, Term, word_eq, coefficient_of, word_eq-true, collected, additions, collection_result, unless_overflow, sized, coefficient_of-append}
use Rattle.nc_polynomial.proofs.Unique.{descending_unique}
use Rattle.nc_polynomial.proofs.CoefficientLaws.{coefficient_of-added}
use Rattle.nc_polynomial.proofs.Shapes.{Descends, IsNonzero, descends_one, descending-added, nonzero-added}

pub coefficient_of-collected : (terms : List Term) (w : List ℕ) → coefficient_of (collected terms) w ≡ coefficient_of terms w
coefficient_of-collected [] w = refl
coefficient_of-collected (t ∷ terms) w =
    coefficient_of-added w (t ∷ []) (collected terms)
    ∙ ap₂ ◌+ℤ◌ (+ℤ_idr (cond (word_eq t.1 w) t.0 (pos 0))) (coefficient_of-collected terms w)

pub descending-collected : (terms : List Term) → Descends (collected terms)
descending-collected [] = tt
descending-collected (t ∷ terms) = descending-added (t ∷ []) (collected terms) (descends_one t) (descending-collected terms)

pub nonzero-collected : (terms : List Term) → All (λ t. t.0 ≢ pos 0) (collected terms)
nonzero-collected [] = All-nil IsNonzero
nonzero-collected (t ∷ terms) = nonzero-added (t ∷ []) (collected terms)

module _ (terms : List Term) (i : ℕ) (t : Term) (front : take (i + 1) terms ≡ take i terms ++ t ∷ []) (back : drop i terms ≡ t ∷ drop (i + 1) terms) where
  -- the sum for the next term comes first
  pub additions-next : additions (take i terms) (drop i terms) ≡ sum_of (coefficient_of (take i terms) t.1) t.0 ∷ additions (take (i + 1) terms) (drop (i + 1) terms)
  additions-next =
      ap (additions (take i terms)) back
      ∙ ap (λ done. sum_of (coefficient_of (take i terms) t.1) t.0 ∷ additions done (drop (i + 1) terms)) (sym front)

  -- with the next term the coefficients are those of one more term
  pub coefficients-next : (old new : List ℕ → ℤ) → ((w : List ℕ) → old w ≡ coefficient_of (take i terms) w) → ((w : List ℕ) → new w ≡ coefficient_of (t ∷ []) w +ℤ old w)
      → (w : List ℕ) → new w ≡ coefficient_of (take (i + 1) terms) w
  coefficients-next old new before written w =
      let more : coefficient_of (take i terms ++ t ∷ []) w ≡ coefficient_of (take i terms) w +ℤ coefficient_of (t ∷ []) w = coefficient_of-append (take i terms) (t ∷ []) w in
      let sum : new w ≡ coefficient_of (take i terms ++ t ∷ []) w = written w ∙ omega (arith, ints, before w, more) in
      sum ∙ ap (λ p. coefficient_of p w) (sym front)

-- a sum that is a coefficient leaves the table in range
pub in_range-written : (old new : List ℕ → ℤ) (t : Term) → ((w : List ℕ) → IsCoefficient (old w)) → IsCoefficient (old t.1 +ℤ t.0) → ((w : List ℕ) → new w ≡ coefficient_of (t ∷ []) w +ℤ old w) → (w : List ℕ) → IsCoefficient (new w)
in_range-written old new t before fits written w = subst IsCoefficient (sym (written w)) (go (word_eq t.1 w) refl)
  where
    go : (b : Bool) → word_eq t.1 w ≡ b → IsCoefficient ((cond b t.0 (pos 0) +ℤ pos 0) +ℤ old w)
    go true same =
        let sum : old t.1 +ℤ t.0 ≡ (t.0 +ℤ pos 0) +ℤ old w = ap (λ v. old v +ℤ t.0) (word_eq-true t.1 w same) ∙ omega (arith, ints) in
        subst IsCoefficient sum fits
    go false other =
        let none : old w ≡ (pos 0 +ℤ pos 0) +ℤ old w = omega (arith, ints) in
        subst IsCoefficient none (before w)

-- where all sums fit, only the size is left to test
pub collected-end : (terms out : List Term) → first_overflow (additions [] terms) ≡ None → Descends out → All (λ t. t.0 ≢ pos 0) out → ((w : List ℕ) → coefficient_of out w ≡ coefficient_of terms w) → collection_result terms ≡ sized out
collected-end terms out fit descends nonzero same =
    ap (λ o. unless_overflow o (sized (collected terms))) fit
    ∙ ap sized (descending_unique (collected terms) out (descending-collected terms) descends (nonzero-collected terms) nonzero (record { at = λ w. coefficient_of-collected terms w ∙ sym (same w) }))
