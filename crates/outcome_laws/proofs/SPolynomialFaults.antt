-- Why an S-polynomial is not made.
use Rattle.outcome_laws.proofs.Prelude.{◌≡◌, ◌⊎◌, inl, inr, ℕ, ℤ, ◌+ℤ◌, Bool, List, [], ◌++◌, Option, Some, None, Result, Ok, Err, refl, sym, ap, ap₂, ◌∙◌, subst, arith, Contains, Contains-append_cases, +ℤ_idr, Overflow, IsCoefficient, product_of, sum_of, exact_value, first_overflow, Term, coefficient_of, SamePolynomial, poly_multiple, poly_between, generator_at, coefficient_of-append, coefficient_of-multiple, PolyFault, scaled, products, added, sums, checked, unless_overflow, size_fault, sized, IsShaped, combined, shaped-between, sized-value, shaped_scale, shaped_add, coefficient_of-added, coefficient_of-scaled, recursion_from_IsDescending, descending-scaled, Row, Rule, rule_at, polynomials_of, rule_at-polynomial, Ambiguity, IsAmbiguity, first_row, second_row, s_rows_of, row_multiple, s_polynomial_of, s_sum, IsTooLarge, row_words, IsOfSum, of_left, of_right, of_both}
use Rattle.nc_polynomial.specs.declared.fault.PolyFault.TheVariants as fault
use Rattle.nc_polynomial.specs.Product.{and_then}
use Rattle.outcome_laws.proofs.Listed.{failing, value_of, sum_at}
use Rattle.outcome_laws.proofs.Results.{none_append}
use Rattle.outcome_laws.proofs.ReductionFaults.{too_large}

-- a p + b q
sum_operation : (a : ℤ) (p : List Term) (b : ℤ) (q : List Term) → IsShaped p → IsShaped q → (o : Overflow) → Contains (products a p ++ (products b q ++ sums (scaled a p) (scaled b q))) o → IsOfSum a p b q o
sum_operation a p b q left right o at = by_left (Contains-append_cases (products a p) (products b q ++ sums (scaled a p) (scaled b q)) o at)
  where
    both : Contains (sums (scaled a p) (scaled b q)) o → IsOfSum a p b q o
    both in_sums =
        let sum = sum_at (scaled a p) (scaled b q) (descending-scaled a p (recursion_from_IsDescending p left.descending)) (descending-scaled b q (recursion_from_IsDescending q right.descending)) o in_sums in
        of_both sum.word (sum.is ∙ (λ n. sum_of (coefficient_of-scaled a p sum.word n) (coefficient_of-scaled b q sum.word n)))

    by_right : Contains (products b q) o ⊎ Contains (sums (scaled a p) (scaled b q)) o → IsOfSum a p b q o
    by_right (inl in_products) = let v = value_of (λ (t : Term). product_of b t.0) q o in_products in of_right v.argument v.listed v.is
    by_right (inr in_sums) = both in_sums

    by_left : Contains (products a p) o ⊎ Contains (products b q ++ sums (scaled a p) (scaled b q)) o → IsOfSum a p b q o
    by_left (inl in_products) = let v = value_of (λ (t : Term). product_of a t.0) p o in_products in of_left v.argument v.listed v.is
    by_left (inr later) = by_right (Contains-append_cases (products b q) (sums (scaled a p) (scaled b q)) o later)

sum_shaped : (a : ℤ) (p : List Term) (b : ℤ) (q : List Term) → IsShaped p → IsShaped q → first_overflow (products a p ++ (products b q ++ sums (scaled a p) (scaled b q))) ≡ None → IsShaped (added (scaled a p) (scaled b q))
sum_shaped a p b q left right none =
    let first = none_append (products a p) (products b q ++ sums (scaled a p) (scaled b q)) none in
    let second = none_append (products b q) (sums (scaled a p) (scaled b q)) first.1 in
    shaped_add (scaled a p) (scaled b q) (added (scaled a p) (scaled b q)) (shaped_scale a p (scaled a p) left (fits (products a p) (scaled a p) first.0)) (shaped_scale b q (scaled b q) right (fits (products b q) (scaled b q) second.0))
    (fits (sums (scaled a p) (scaled b q)) (added (scaled a p) (scaled b q)) second.1)
  where
    fits : (os : List Overflow) (x : List Term) → first_overflow os ≡ None → checked os x ≡ Ok x
    fits os x h = ap (λ o. unless_overflow o (Ok x)) h

-- What stops it.
pub data SPolynomialStops (rules : List Rule) (a : Ambiguity) (e : PolyFault) : Type 0 where
  sum_overflows : (o : Overflow) → e ≡ fault.Overflow o → (IsCoefficient (exact_value o) → ⊥)
      → IsOfSum (first_row rules a).coef (row_words rules (first_row rules a)) (second_row rules a).coef (row_words rules (second_row rules a)) o → SPolynomialStops rules a e
  multiple_passes : (letters : Bool) (row : Row) → e ≡ size_fault letters → Contains (s_rows_of rules a) row → IsTooLarge letters (row_words rules row) → SPolynomialStops rules a e
  sum_passes : (letters : Bool) (p : List Term) → e ≡ size_fault letters → IsShaped p → SamePolynomial p (s_sum rules a) → IsTooLarge letters p → SPolynomialStops rules a e

module _ (rules : List Rule) (a : Ambiguity) (is : IsAmbiguity rules a) where
  abbrev one : Row
  one = first_row rules a

  abbrev two : Row
  two = second_row rules a

  words_shaped : (row : Row) (number : ℕ) (g : Rule) → rule_at rules number ≡ Some g → IsShaped (poly_between row.left (generator_at (polynomials_of rules) number) row.right)
  words_shaped row number g numbered = shaped-between row.left row.right _ (subst IsShaped (sym (rule_at-polynomial rules number g numbered)) g.poly.canonical.shaped)

  one_shaped : IsShaped (row_words rules one)
  one_shaped = words_shaped one a.i is.first is.first_numbered

  two_shaped : IsShaped (row_words rules two)
  two_shaped = words_shaped two a.j is.second is.second_numbered

  whole_sum : (w : List ℕ) → coefficient_of (added (scaled one.coef (row_words rules one)) (scaled two.coef (row_words rules two))) w ≡ coefficient_of (s_sum rules a) w
  whole_sum w =
      coefficient_of-added w (scaled one.coef (row_words rules one)) (scaled two.coef (row_words rules two))
      ∙ ap₂ ◌+ℤ◌ (coefficient_of-scaled one.coef (row_words rules one) w ∙ sym (coefficient_of-multiple one.coef (row_words rules one) w))
      (coefficient_of-scaled two.coef (row_words rules two) w ∙ sym (coefficient_of-multiple two.coef (row_words rules two) w) ∙ sym (last (poly_multiple two.coef (row_words rules two))))
      ∙ sym (coefficient_of-append (poly_multiple one.coef (row_words rules one)) (poly_multiple two.coef (row_words rules two) ++ []) w)
    where
      last : (p : List Term) → coefficient_of (p ++ []) w ≡ coefficient_of p w
      last p = coefficient_of-append p [] w ∙ +ℤ_idr (coefficient_of p w)

  no_fault : (p : List Term) (e : PolyFault) → ◌≡◌ {A = Result (List Term) PolyFault} (Ok p) (Err e) → ⊥
  no_fault p e k = cc

  sum_stops : (e : PolyFault) → combined one.coef (row_words rules one) two.coef (row_words rules two) ≡ Err e → SPolynomialStops rules a e
  sum_stops e ends =
      go (first_overflow (products one.coef (row_words rules one) ++ (products two.coef (row_words rules two) ++ sums (scaled one.coef (row_words rules one)) (scaled two.coef (row_words rules two))))) refl ends
    where
      go : (o : Option Overflow) → first_overflow (products one.coef (row_words rules one) ++ (products two.coef (row_words rules two) ++ sums (scaled one.coef (row_words rules one)) (scaled two.coef (row_words rules two)))) ≡ o
          → unless_overflow o (sized (added (scaled one.coef (row_words rules one)) (scaled two.coef (row_words rules two)))) ≡ Err e → SPolynomialStops rules a e
      go None none k =
          let large = too_large (added (scaled one.coef (row_words rules one)) (scaled two.coef (row_words rules two))) e k in
          sum_passes large.0 (added (scaled one.coef (row_words rules one)) (scaled two.coef (row_words rules two))) large.1
          (sum_shaped one.coef (row_words rules one) two.coef (row_words rules two) one_shaped two_shaped none) (record { at = whole_sum }) large.2
      go (Some o) first k =
          let fail = failing (products one.coef (row_words rules one) ++ (products two.coef (row_words rules two) ++ sums (scaled one.coef (row_words rules one)) (scaled two.coef (row_words rules two)))) o first in
          sum_overflows o (cc) fail.fails (sum_operation one.coef (row_words rules one) two.coef (row_words rules two) one_shaped two_shaped o fail.listed)

  row_stops : (row : Row) → Contains (s_rows_of rules a) row → (e : PolyFault) → row_multiple rules row ≡ Err e → SPolynomialStops rules a e
  row_stops row listed e ends = let large = too_large (row_words rules row) e ends in multiple_passes large.0 row large.1 listed large.2

  second_stops : (e : PolyFault) → and_then (row_multiple rules two) (λ q. combined one.coef (row_words rules one) two.coef q) ≡ Err e → SPolynomialStops rules a e
  second_stops e ends = go (row_multiple rules two) refl ends
    where
      go : (r : Result (List Term) PolyFault) → row_multiple rules two ≡ r → and_then r (λ q. combined one.coef (row_words rules one) two.coef q) ≡ Err e → SPolynomialStops rules a e
      go (Ok q) made k = sum_stops e (subst (λ v. combined one.coef (row_words rules one) two.coef v ≡ Err e) (sym (sized-value (row_words rules two) q made)) k)
      go (Err d) made k = row_stops two (1, omega arith, refl) e (made ∙ k)

  pub s_polynomial_stops : (e : PolyFault) → s_polynomial_of rules a ≡ Err e → SPolynomialStops rules a e
  s_polynomial_stops e ends = go (row_multiple rules one) refl ends
    where
      go : (r : Result (List Term) PolyFault) → row_multiple rules one ≡ r → and_then r (λ p. and_then (row_multiple rules two) (λ q. combined one.coef p two.coef q)) ≡ Err e → SPolynomialStops rules a e
      go (Ok p) made k = second_stops e (subst (λ v. and_then (row_multiple rules two) (λ q. combined one.coef v two.coef q) ≡ Err e) (sym (sized-value (row_words rules one) p made)) k)
      go (Err d) made k = row_stops one (0, omega arith, refl) e (made ∙ k)
