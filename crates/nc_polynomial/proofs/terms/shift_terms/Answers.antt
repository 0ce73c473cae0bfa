use Rattle.nc_polynomial.proofs.Prelude.{rules, ◌≡◌, ◌+◌, ◌*ℤ◌, [], ◌∷◌, ◌++◌, drop, Ok, Err, sym, ap, ◌∙◌, arith, drop_all, append-nil, IsCoefficient, product_of, Term, shifted, products, keep}
use Rattle.nc_polynomial.specs.declared.fault.PolyFault.TheVariants as fault
use Rattle.nc_polynomial.proofs.Checked.{join, shift_from, one-fits, one-fails}
use Rattle.nc_polynomial.proofs.Chains.{ranged_shift}
use Rattle.nc_polynomial.proofs.Steps.{drop_next}
use Rattle.nc_polynomial.proofs.terms.shift_terms.Goals as goal

pub returns-in_err-product-clause-exact : goal.returns-in_err-product-clause-exact
returns-in_err-product-clause-exact c =
    let by = c.args.by in
    let l = c.args.left.now in
    let p = c.args.terms.now in
    let r = c.args.right.now in
    let i = c.loop-term.term-index in
    let t : Term = c.term-item.result in
    let out = c.loop-term.shifted in
    let rest = drop (i + 1) p in
    let back : drop i p ≡ t ∷ rest = drop_next p i t c.loop-term-test.true c.term-item.is in
    let o = product_of by t.0 in
    let given : c.from_residual-in_err-product.result ≡ Err (fault.Overflow o) = search rules in
    let fails : ¬ IsCoefficient (by *ℤ t.0) = search rules in
    let kept : join out (shift_from by l (drop i p) r) ≡ shift_from by l p r = search rules in
    let why : shift_from by l p r ≡ Err (fault.Overflow o) =
    sym kept ∙ ap (λ terms. join out (shift_from by l terms r)) back ∙ one-fails o (products by rest) out (shifted by l (t ∷ rest) r) fails in
    rw given why

pub loop-term-preserved : goal.loop-term-preserved
loop-term-preserved c =
    let by = c.args.by in
    let l = c.args.left.now in
    let p = c.args.terms.now in
    let r = c.args.right.now in
    let i = c.loop-term.term-index in
    let t : Term = c.term-item.result in
    let w = l ++ (t.1 ++ r) in
    let out = c.loop-term.shifted in
    let rest = drop (i + 1) p in
    let back : drop i p ≡ t ∷ rest = drop_next p i t c.loop-term-test.true c.term-item.is in
    let product : c.in_ok-product.product ≡ by *ℤ t.0 = search rules in
    let fits : IsCoefficient (by *ℤ t.0) = search rules in
    let pushed : c.push_between.new.terms ≡ out ++ keep c.in_ok-product.product w [] = search rules in
    let same : join c.push_between.new.terms (shift_from by l rest r) ≡ shift_from by l p r =
    ap (λ terms. join terms (shift_from by l rest r)) (pushed ∙ ap (λ z. out ++ keep z w []) product)
    ∙ sym (one-fits (product_of by t.0) (products by rest) w out (shifted by l rest r) fits)
    ∙ ap (λ terms. join out (shift_from by l terms r)) (sym back)
    ∙ search (rules, c.loop-term.invariant) in
    search (rules, same)

pub returns-clause-in_range : goal.returns-clause-in_range
returns-clause-in_range c =
    let by = c.args.by in
    let l = c.args.left.now in
    let p = c.args.terms.now in
    let r = c.args.right.now in
    let out = c.loop-term.shifted in
    let kept : join out (shift_from by l (drop c.loop-term.term-index p) r) ≡ shift_from by l p r = search rules in
    ranged_shift by l p r out
    (sym kept ∙ ap (λ q. join out (shift_from by l q r)) (drop_all c.loop-term.term-index p (omega arith)) ∙ ap Ok (append-nil out))
