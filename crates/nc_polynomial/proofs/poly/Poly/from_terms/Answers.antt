use Rattle.nc_polynomial.proofs.Prelude.{rules, ◌≡◌, ℕ, ◌+◌, ◌+ℤ◌, List, [], ◌∷◌, take, drop, None, Err, sym, ap, subst, ◌∙◌, arith, drop_all, take_all, IsCoefficient, sum_of, first_overflow, Term, coefficient_of, Explains, checked, sized, unless_overflow, additions, collected, collection_result, coefficient_in, reversed}
use Rattle.nc_polynomial.proofs.Steps.{take_next, drop_next}
use Rattle.nc_polynomial.proofs.Chains.{explains-first, first-fits, sized-value}
use Rattle.nc_polynomial.proofs.Results.{ok_part}
use Rattle.nc_polynomial.proofs.CollectedTerms.{additions-next, coefficients-next, in_range-written, collected-end}
use Rattle.nc_polynomial.proofs.Tables.{shaped-table, descending-table, nonzero-table, coefficient_of-table}
use Rattle.nc_polynomial.proofs.poly.Poly.from_terms.Goals as goal

pub returns-in_err-add_term-clause-exact : goal.returns-in_err-add_term-clause-exact
returns-in_err-add_term-clause-exact c =
    let terms = c.args.terms.now in
    let i = c.loop-term.term-index in
    let t : Term = c.term-item.result in
    let front = take_next terms i t (omega arith) c.term-item.is in
    let back = drop_next terms i t (omega arith) c.term-item.is in
    let more = additions (take (i + 1) terms) (drop (i + 1) terms) in
    let next = sum_of (coefficient_in c.loop-term.table t.1) t.0 in
    let from_here : first_overflow (additions [] terms) ≡ first_overflow (next ∷ more) =
    c.loop-term.invariant.rest ∙ ap first_overflow (additions-next terms i t front back)
    ∙ ap (λ x. first_overflow (sum_of x t.0 ∷ more)) (sym (c.loop-term.invariant.coefficients t.1)) in
    let e = c.in_err-add_term.field-0.0 in
    let why : Explains (checked (next ∷ []) t.0) e = search rules in
    let given : c.from_residual.result ≡ Err e = search rules in
    rw given (subst (λ o. Explains (unless_overflow o (sized (collected terms))) e) (sym from_here) (explains-first (next ∷ []) more t.0 (sized (collected terms)) e why))

pub loop-term-preserved : goal.loop-term-preserved
loop-term-preserved c =
    let terms = c.args.terms.now in
    let i = c.loop-term.term-index in
    let t : Term = c.term-item.result in
    let front = take_next terms i t (omega arith) c.term-item.is in
    let back = drop_next terms i t (omega arith) c.term-item.is in
    let old = coefficient_in c.loop-term.table in
    let new = coefficient_in c.add_term.new.table in
    let fits : IsCoefficient (old t.1 +ℤ t.0) = search rules in
    let added : (w : List ℕ) → new w ≡ coefficient_of (t ∷ []) w +ℤ old w = λ w. search rules in
    let fits_here : IsCoefficient (coefficient_of (take i terms) t.1 +ℤ t.0) = subst (λ x. IsCoefficient (x +ℤ t.0)) (c.loop-term.invariant.coefficients t.1) fits in
    record {
      ordered = search rules;
      coefficients = coefficients-next terms i t front back old new c.loop-term.invariant.coefficients added;
      in_range = in_range-written old new t c.loop-term.invariant.in_range fits added;
      rest =
          c.loop-term.invariant.rest ∙ ap first_overflow (additions-next terms i t front back)
          ∙ first-fits (sum_of (coefficient_of (take i terms) t.1) t.0) (additions (take (i + 1) terms) (drop (i + 1) terms)) fits_here;
    }

pub from_descending-requires : goal.from_descending-requires
from_descending-requires c =
    let out : c.in_ok-descending.field-0 ≡ reversed c.loop-term.table.entries [] = search rules in
    rw out (shaped-table c.loop-term.table c.loop-term.invariant.ordered c.loop-term.invariant.in_range)

-- the table has the coefficients of all terms
sums_are : (c : goal.After-from_descending) (w : List ℕ) → coefficient_of (reversed c.loop-term.table.entries []) w ≡ coefficient_of c.args.terms.now w
sums_are c w =
    coefficient_of-table c.loop-term.table c.loop-term.invariant.ordered w ∙ c.loop-term.invariant.coefficients w
    ∙ ap (λ p. coefficient_of p w) (take_all c.loop-term.term-index c.args.terms.now (omega arith))

pub returns-clause-exact : goal.returns-clause-exact
returns-clause-exact c =
    let terms = c.args.terms.now in
    let i = c.loop-term.term-index in
    let out = reversed c.loop-term.table.entries [] in
    let all : drop i terms ≡ [] = drop_all i terms (omega arith) in
    let fit : first_overflow (additions [] terms) ≡ None = c.loop-term.invariant.rest ∙ ap (λ rest. first_overflow (additions (take i terms) rest)) all in
    let end : collection_result terms ≡ sized out =
    collected-end terms out fit (descending-table c.loop-term.table c.loop-term.invariant.ordered) (nonzero-table c.loop-term.table c.loop-term.invariant.ordered) (sums_are c) in
    let out_is : c.in_ok-descending.field-0 ≡ out = search rules in
    rw (end, ← out_is) c.from_descending.ensures

pub returns-clause-sum : goal.returns-clause-sum
returns-clause-sum c =
    let out_is : c.in_ok-descending.field-0 ≡ reversed c.loop-term.table.entries [] = search rules in
    ok_part c.from_descending.result _
    (λ r limits. record { at = λ w. ap (λ p. coefficient_of p w) (sym (sized-value c.in_ok-descending.field-0 r.terms limits) ∙ out_is) ∙ sums_are c w })
    c.from_descending.ensures
