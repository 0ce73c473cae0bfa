-- The S-polynomial is the sum of its rows.
use Rattle.std.proofs.Common.{◌≡◌, List, [], Ok, sym, subst}
use Rattle.std.proofs.lemmas.List.{append-nil}
use Rattle.definitions.specs.Poly.{Term, SamePolynomial, poly_sum, poly_multiple, poly_between}
use Rattle.traced_rows.specs.Traces.{origin_poly}
use Rattle.traced_rows.specs.declared.Row.{Row}
use Rattle.nc_polynomial.proofs.Chains.{sized-value}
use Rattle.nc_polynomial.specs.Arithmetic.{combined}
use Rattle.nc_polynomial.specs.Product.{and_then}
use Rattle.rule_reduce.specs.RuleLists.{polynomials_of}
use Rattle.rule_reduce.specs.declared.rule.Rule.{Rule}
use Rattle.ambiguities.specs.Laws.{SPolynomialsBalance}
use Rattle.ambiguities.specs.SPolynomials.{first_row, second_row, row_multiple, s_polynomial_of}
use Rattle.ambiguities.specs.declared.ambiguity.Ambiguity.{Ambiguity}
use Rattle.ambiguities.proofs.Multiples.{passed, combined_value}

module _ (rules : List Rule) (a : Ambiguity) where
  abbrev one : Row
  one = first_row rules a

  abbrev two : Row
  two = second_row rules a

  abbrev pub between_of : Row → List Term
  between_of row = poly_between row.left (origin_poly [] (polynomials_of rules) row.from) row.right

  pub sum_of_multiples : (p : List Term) → s_polynomial_of rules a ≡ Ok p → SamePolynomial p (poly_sum (poly_multiple one.coef (between_of one)) (poly_multiple two.coef (between_of two)))
  sum_of_multiples p ends =
      let first = passed (row_multiple rules one) (λ m. and_then (row_multiple rules two) (λ n. combined one.coef m two.coef n)) p ends in
      let second = passed (row_multiple rules two) (λ n. combined one.coef first.value two.coef n) p first.rest in
      subst (λ (t : List Term × List Term). SamePolynomial p (poly_sum (poly_multiple one.coef t.0) (poly_multiple two.coef t.1)))
      (λ i. (sym (sized-value (between_of one) first.value first.given) i, sym (sized-value (between_of two) second.value second.given) i))
      (combined_value one.coef first.value two.coef second.value p second.rest)

-- the law
pub s_polynomials_balance : SPolynomialsBalance
s_polynomials_balance rules a p ends =
    let first = poly_multiple (first_row rules a).coef (between_of rules a (first_row rules a)) in
    let second = poly_multiple (second_row rules a).coef (between_of rules a (second_row rules a)) in
    subst (λ q. SamePolynomial p (poly_sum first q)) (sym (append-nil second)) (sum_of_multiples rules a p ends)
