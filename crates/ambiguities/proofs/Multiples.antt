-- The polynomial of a rule between two words, and the sum of two multiples.
use Rattle.std.proofs.Common.{◌≡◌, ℕ, ℤ, pos, ◌+ℤ◌, cond, List, [], ◌∷◌, ◌++◌, Some, Result, Ok, Err, refl, sym, ap, ap₂, ◌∙◌, subst, get_or}
use Rattle.std.proofs.lemmas.List.Elements.{All-nil, All-cons}
use Rattle.std.specs.List.{All}
use Rattle.std.specs.Ordering.{is_eq}
use Rattle.definitions.proofs.Coefficients.{Same_trans, SamePolynomial-append}
use Rattle.definitions.proofs.Linear.{coefficient_other}
use Rattle.definitions.specs.Poly.{Term, word_eq, coefficient_of, SamePolynomial, poly_sum, poly_multiple, poly_between}
use Rattle.nc_polynomial.proofs.Around.{word_cmp-around}
use Rattle.nc_polynomial.proofs.Chains.{finished-value, no_error}
use Rattle.nc_polynomial.proofs.Distinct.{AreDistinct, distinct-descending, first_coefficient}
use Rattle.nc_polynomial.proofs.Shapes.{recursion_from_IsDescending}
use Rattle.nc_polynomial.proofs.Values.{SamePolynomial-added, SamePolynomial-scaled}
use Rattle.nc_polynomial.proofs.Words.{word_eq-cmp, word_eq-turned}
use Rattle.nc_polynomial.specs.Arithmetic.{combined}
use Rattle.nc_polynomial.specs.Product.{and_then}
use Rattle.nc_polynomial.specs.Shape.{IsShaped}
use Rattle.nc_polynomial.specs.Terms.{scaled, products, added, sums}
use Rattle.nc_polynomial.specs.declared.fault.PolyFault.{PolyFault}
use Rattle.word_orders.specs.Admissible.{Compare}
use Rattle.rule_reduce.proofs.AtMost.{leading-all}
use Rattle.rule_reduce.specs.Leading.{leading_term}

-- the first of two calls went well, and so did the second on what it gave
pub record Passed (r : Result (List Term) PolyFault) (next : List Term → Result (List Term) PolyFault) (p : List Term) : Type 0 where
  pub value : List Term
  pub given : r ≡ Ok value
  pub rest : next value ≡ Ok p

pub passed : (r : Result (List Term) PolyFault) (next : List Term → Result (List Term) PolyFault) (p : List Term) → and_then r next ≡ Ok p → Passed r next p
passed (Ok v) next p ends = record { value = v; given = refl; rest = ends }
passed (Err e) next p ends = absurd (no_error p e (sym ends))

-- a p + b q
pub combined_value : (a : ℤ) (p : List Term) (b : ℤ) (q r : List Term) → combined a p b q ≡ Ok r → SamePolynomial r (poly_sum (poly_multiple a p) (poly_multiple b q))
combined_value a p b q r ends =
    subst (λ x. SamePolynomial x (poly_sum (poly_multiple a p) (poly_multiple b q)))
    (finished-value (products a p ++ (products b q ++ sums (scaled a p) (scaled b q))) (added (scaled a p) (scaled b q)) r ends)
    (Same_trans (added (scaled a p) (scaled b q)) (poly_sum (scaled a p) (scaled b q)) (poly_sum (poly_multiple a p) (poly_multiple b q))
    (SamePolynomial-added (scaled a p) (scaled b q))
    (SamePolynomial-append (scaled a p) (poly_multiple a p) (scaled b q) (poly_multiple b q) (SamePolynomial-scaled a p) (SamePolynomial-scaled b q)))

-- the same words around two words do not make them equal
word_eq-around : (l v w r : List ℕ) → word_eq (l ++ (v ++ r)) (l ++ (w ++ r)) ≡ word_eq v w
word_eq-around l v w r = word_eq-cmp (l ++ (v ++ r)) (l ++ (w ++ r)) ∙ ap is_eq (word_cmp-around l v w r) ∙ sym (word_eq-cmp v w)

pub coefficient_of-around : (l r w : List ℕ) (p : List Term) → coefficient_of (poly_between l p r) (l ++ (w ++ r)) ≡ coefficient_of p w
coefficient_of-around l r w [] = refl
coefficient_of-around l r w (t ∷ p) = ap₂ (λ b (z : ℤ). cond b t.0 (pos 0) +ℤ z) (word_eq-around l t.1 w r) (coefficient_of-around l r w p)

-- in a list with no word twice, the integer beside a word is its coefficient
own_coefficients : (p : List Term) → AreDistinct p → All (λ t. coefficient_of p t.1 ≡ t.0) p
own_coefficients [] distinct = All-nil (λ (t : Term). coefficient_of [] t.1 ≡ t.0)
own_coefficients (t ∷ p) distinct = All-cons (λ (u : Term). coefficient_of (t ∷ p) u.1 ≡ u.0) t p (first_coefficient t p distinct.0)
    (λ i u k. coefficient_other (get_or p i u).1 t p (word_eq-turned t.1 (get_or p i u).1 ∙ distinct.0 i u k) ∙ own_coefficients p distinct.1 i u k)

pub leading_coefficient : (compare : Compare) (p : List Term) (top : Term) → IsShaped p → leading_term compare p ≡ Some top → coefficient_of p top.1 ≡ top.0
leading_coefficient compare p top shaped is =
    leading-all (λ t. coefficient_of p t.1 ≡ t.0) compare p top is (own_coefficients p (distinct-descending p (recursion_from_IsDescending p shaped.descending)))
