use Rattle.nc_polynomial.proofs.Prelude.{rules, ◌≡◌, ◌+◌, ◌∷◌, ◌*ℤ◌, None, Ok, drop, sym, ap, ◌∙◌, arith, drop_all, IsCoefficient, first_overflow, product_of, Term, poly_multiple, scaled, products, unless_overflow}
use Rattle.nc_polynomial.proofs.Chains.{first-fits, ranged_scale}
use Rattle.nc_polynomial.proofs.Steps.{drop_next}
use Rattle.nc_polynomial.proofs.multiples.kept_terms.Goals as goal

pub loop-term-preserved : goal.loop-term-preserved
loop-term-preserved c =
    let by = c.args.by in
    let p = c.args.terms.now in
    let i = c.loop-term.term-index in
    let t : Term = c.term-item.result in
    let rest = drop (i + 1) p in
    let back : drop i p ≡ t ∷ rest = drop_next p i t (search rules) (search rules) in
    let fits : IsCoefficient (by *ℤ t.0) = search rules in
    let kept : first_overflow (products by (drop i p)) ≡ first_overflow (products by p) = search rules in
    let same : first_overflow (products by rest) ≡ first_overflow (products by p) =
    sym (first-fits (product_of by t.0) (products by rest) fits) ∙ ap (λ l. first_overflow (products by l)) (sym back) ∙ kept in
    search (rules, same)

pub returns-clause-in_range : goal.returns-clause-in_range
returns-clause-in_range c =
    let k = c.args.by in
    let p = c.args.terms.now in
    let kept : poly_multiple k c.kept_by.result.now ≡ scaled k p = search rules in
    let passed : first_overflow (products k (drop c.loop-term.term-index p)) ≡ first_overflow (products k p) = search rules in
    let fits : first_overflow (products k p) ≡ None = sym passed ∙ ap (λ l. first_overflow (products k l)) (drop_all c.loop-term.term-index p (omega arith)) in
    ranged_scale k p (poly_multiple k c.kept_by.result.now) (ap (λ o. unless_overflow o (Ok (scaled k p))) fits ∙ ap Ok (sym kept))
