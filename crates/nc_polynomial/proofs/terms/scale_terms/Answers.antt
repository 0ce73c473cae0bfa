use Rattle.nc_polynomial.proofs.Prelude.{rules, ◌≡◌, ◌+◌, ◌*ℤ◌, [], ◌∷◌, ◌++◌, drop, Ok, Err, sym, ap, ◌∙◌, arith, drop_all, append-nil, IsCoefficient, product_of, Term, scaled, products, keep}
use Rattle.nc_polynomial.specs.declared.fault.PolyFault.TheVariants as fault
use Rattle.nc_polynomial.proofs.Checked.{join, scale_from, one-fits, one-fails}
use Rattle.nc_polynomial.proofs.Chains.{ranged_scale}
use Rattle.nc_polynomial.proofs.Steps.{drop_next}
use Rattle.nc_polynomial.proofs.terms.scale_terms.Goals as goal

pub returns-in_err-product-clause-exact : goal.returns-in_err-product-clause-exact
returns-in_err-product-clause-exact c =
    let by = c.args.by in
    let p = c.args.terms.now in
    let i = c.loop-term.term-index in
    let t : Term = c.term-item.result in
    let out = c.loop-term.scaled in
    let rest = drop (i + 1) p in
    let back : drop i p ≡ t ∷ rest = drop_next p i t c.loop-term-test.true c.term-item.is in
    let o = product_of by t.0 in
    let given : c.from_residual-in_err-product.result ≡ Err (fault.Overflow o) = search rules in
    let fails : ¬ IsCoefficient (by *ℤ t.0) = search rules in
    let kept : join out (scale_from by (drop i p)) ≡ scale_from by p = search rules in
    let why : scale_from by p ≡ Err (fault.Overflow o) =
    sym kept ∙ ap (λ l. join out (scale_from by l)) back ∙ one-fails o (products by rest) out (scaled by (t ∷ rest)) fails in
    rw given why

pub loop-term-preserved : goal.loop-term-preserved
loop-term-preserved c =
    let by = c.args.by in
    let p = c.args.terms.now in
    let i = c.loop-term.term-index in
    let t : Term = c.term-item.result in
    let out = c.loop-term.scaled in
    let rest = drop (i + 1) p in
    let back : drop i p ≡ t ∷ rest = drop_next p i t c.loop-term-test.true c.term-item.is in
    let product : c.in_ok-product.product ≡ by *ℤ t.0 = search rules in
    let fits : IsCoefficient (by *ℤ t.0) = search rules in
    let pushed : c.push_copy.new.terms ≡ out ++ keep c.in_ok-product.product t.1 [] = search rules in
    let same : join c.push_copy.new.terms (scale_from by rest) ≡ scale_from by p =
    ap (λ l. join l (scale_from by rest)) (pushed ∙ ap (λ z. out ++ keep z t.1 []) product)
    ∙ sym (one-fits (product_of by t.0) (products by rest) t.1 out (scaled by rest) fits)
    ∙ ap (λ l. join out (scale_from by l)) (sym back)
    ∙ search (rules, c.loop-term.invariant) in
    search (rules, same)

pub returns-clause-in_range : goal.returns-clause-in_range
returns-clause-in_range c =
    let kept : join c.loop-term.scaled (scale_from c.args.by (drop c.loop-term.term-index c.args.terms.now)) ≡ scale_from c.args.by c.args.terms.now = search rules in
    let whole : scale_from c.args.by c.args.terms.now ≡ Ok c.loop-term.scaled =
    sym kept
    ∙ ap (λ l. join c.loop-term.scaled (scale_from c.args.by l)) (drop_all c.loop-term.term-index c.args.terms.now (omega arith))
    ∙ ap Ok (append-nil c.loop-term.scaled) in
    ranged_scale c.args.by c.args.terms.now c.loop-term.scaled whole
