-- What holds of the words of all operands holds of the words of a result.
use Rattle.expressions.proofs.Prelude.{◌≡◌, ℕ, ℤ, pos, List, [], ◌∷◌, ◌++◌, Result, Ok, Err, get_or, sym, refl, subst, append-nil, All-nil, All-head, All-tail, All-map, All-replicate, All-weaker, All, Poly, poly_between, Quiver, adjoint_word, adjoint_poly, PolyFault, scaled, products, negated, aligned, added, sums, sized, sum_result, difference_result, multiple_result, combined, collected, additions, collection_result, and_then, product_step, product_result, all-scaled, all-totals, all-aligned, no_error, sized-value, finished-value}
use Rattle.nc_polynomial.specs.declared.fault.PolyFault.TheVariants as fault
use Rattle.nc_polynomial.specs.Product.{product_from}
use Rattle.expressions.proofs.Sequences.{same_value}

abbrev pub Words : (List ℕ → Type 0) → Poly → Type 0
Words P p = All (λ t. P t.1) p

pub weaker : (P Q : List ℕ → Type 0) → ((w : List ℕ) → P w → Q w) → (p : Poly) → Words P p → Words Q p
weaker P Q then p h = All-weaker (λ (t : ℤ × List ℕ). P t.1) (λ (t : ℤ × List ℕ). Q t.1) (λ t. then t.1) p h

module _ (P : List ℕ → Type 0) where
  words-added : (p q : Poly) → Words P p → Words P q → Words P (added p q)
  words-added p q h k = all-totals P (aligned p q) (all-aligned P p q h k)

  pub words-negated : (p : Poly) → Words P p → Words P (negated p)
  words-negated p h = All-map (λ (t : ℤ × List ℕ). P t.1) _ p h

  pub words-sum : (p q r : Poly) → Words P p → Words P q → sum_result p q ≡ Ok r → Words P r
  words-sum p q r h k e = subst (Words P) (finished-value (sums p q) (added p q) r e) (words-added p q h k)

  pub words-difference : (p q r : Poly) → Words P p → Words P q → difference_result p q ≡ Ok r → Words P r
  words-difference p q r h k e = words-sum p (negated q) r h (words-negated q k) e

  pub words-multiple : (k : ℤ) (p r : Poly) → Words P p → multiple_result k p ≡ Ok r → Words P r
  words-multiple k p r h e = subst (Words P) (finished-value (products k p) (scaled k p) r e) (all-scaled P k p h)

  words-combined : (a : ℤ) (p : Poly) (b : ℤ) (q r : Poly) → Words P p → Words P q → combined a p b q ≡ Ok r → Words P r
  words-combined a p b q r h k e =
      subst (Words P) (finished-value (products a p ++ (products b q ++ sums (scaled a p) (scaled b q))) (added (scaled a p) (scaled b q)) r e)
      (words-added (scaled a p) (scaled b q) (all-scaled P a p h) (all-scaled P b q k))

  abbrev HasWord : ℤ × List ℕ → Type 0
  HasWord t = P t.1

  pub words-collected : (p : Poly) → Words P p → Words P (collected p)
  words-collected [] h = All-nil HasWord
  words-collected (t ∷ p) h = words-added (t ∷ []) (collected p) (All-replicate HasWord 1 t (All-head HasWord t p h)) (words-collected p (All-tail HasWord t p h))

  pub words-collection : (p r : Poly) → Words P p → collection_result p ≡ Ok r → Words P r
  words-collection p r h e = subst (Words P) (finished-value (additions [] p) (collected p) r e) (words-collected p h)

pub words-adjoint : (P Q : List ℕ → Type 0) (q : Quiver) → ((w : List ℕ) → P w → Q (adjoint_word q w)) → (p : Poly) → Words P p → Words Q (adjoint_poly q p)
words-adjoint P Q q turned p h = All-map (λ (t : ℤ × List ℕ). Q t.1) _ p (λ k t below. turned (get_or p k t).1 (h k t below))

-- products
module _ (P Q R : List ℕ → Type 0) (joined : (v w : List ℕ) → P v → Q w → R (v ++ w)) where
  words-between : (v : List ℕ) (q : Poly) → P v → Words Q q → Words R (poly_between v q [])
  words-between v q h k =
      All-map (λ (t : ℤ × List ℕ). R t.1) _ q (λ i t below. let w = (get_or q i t).1 in subst (λ x. R (v ++ x)) (sym (append-nil w)) (joined v w h (k i t below)))

  words-step : (sum : Poly) (t : ℤ × List ℕ) (q r : Poly) → Words R sum → P t.1 → Words Q q → product_step sum t q ≡ Ok r → Words R r
  words-step sum t q r h k m e = go (sized (poly_between t.1 q [])) refl e
    where
      go : (s : Result Poly PolyFault) → sized (poly_between t.1 q []) ≡ s → and_then s (λ moved. combined (pos 1) sum t.0 moved) ≡ Ok r → Words R r
      go (Ok moved) limits n = words-combined R (pos 1) sum t.0 moved r h (subst (Words R) (sized-value (poly_between t.1 q []) moved limits) (words-between t.1 q k m)) n
      go (Err f) limits n = absurd (no_error r f (sym n))

  words-product_from : (sum p q r : Poly) → Words R sum → Words P p → Words Q q → product_from sum p q ≡ Ok r → Words R r
  words-product_from sum [] q r h k m e = subst (Words R) (same_value sum r e) h
  words-product_from sum (t ∷ p) q r h k m e = go (product_step sum t q) refl e (λ next made n. words-product_from next p q r made (All-tail (λ (u : ℤ × List ℕ). P u.1) t p k) m n)
    where
      go : (s : Result Poly PolyFault) → product_step sum t q ≡ s → and_then s (λ next. product_from next p q) ≡ Ok r
          → ((next : Poly) → Words R next → product_from next p q ≡ Ok r → Words R r) → Words R r
      go (Ok next) step n more = more next (words-step sum t q next h (All-head (λ (u : ℤ × List ℕ). P u.1) t p k) m step) n
      go (Err f) step n more = absurd (no_error r f (sym n))

  pub words-product : (p q r : Poly) → Words P p → Words Q q → product_result p q ≡ Ok r → Words R r
  words-product p q r h k e = words-product_from [] p q r (All-nil _) h k e
