use Rattle.nc_polynomial.proofs.Prelude.{rules, ◌≡◌, ◌+◌, [], ◌∷◌, drop, Ok, Err, sym, ap, subst, ◌∙◌, drop_all, Term, Explains, and_then, product_step, product_from}
use Rattle.nc_polynomial.proofs.OneTerm.{from-step_fault}
use Rattle.nc_polynomial.proofs.Steps.{drop_next}
use Rattle.nc_polynomial.proofs.product.from_both.Goals as goal

pub returns-in_err-add_moved : goal.returns-in_err-add_moved
returns-in_err-add_moved c =
    let p = c.args.left.now.terms in
    let q = c.args.right.now.terms in
    let i = c.loop-term.term-index in
    let t : Term = c.term-item.result in
    let sum = c.loop-term.sum in
    let e = c.in_err-add_moved.field-0.0 in
    let given : c.from_residual.result ≡ Err e = search rules in
    let why : Explains (product_step sum t q) e = search rules in
    let back : drop i p ≡ t ∷ drop (i + 1) p = drop_next p i t (search rules) (search rules) in
    rw given (subst (λ r. Explains r e) (ap (λ l. product_from sum l q) (sym back) ∙ c.loop-term.invariant.rest) (from-step_fault sum t (drop (i + 1) p) q e why))

pub loop-term-preserved : goal.loop-term-preserved
loop-term-preserved c =
    let p = c.args.left.now.terms in
    let q = c.args.right.now.terms in
    let i = c.loop-term.term-index in
    let t : Term = c.term-item.result in
    let sum = c.loop-term.sum in
    let more = drop (i + 1) p in
    let step : product_step sum t q ≡ Ok c.add_moved.new.self = search rules in
    let back : drop i p ≡ t ∷ more = drop_next p i t (search rules) (search rules) in
    record {
      rest =
          sym (ap (λ r. and_then r (λ next. product_from next more q)) step)
          ∙ ap (λ l. product_from sum l q) (sym back) ∙ c.loop-term.invariant.rest;
      canonical = search rules;
    }

pub returns : goal.returns
returns c =
    let p = c.args.left.now.terms in
    let all : drop c.loop-term.term-index p ≡ [] = drop_all c.loop-term.term-index p (search rules) in
    let whole : product_from [] p c.args.right.now.terms ≡ Ok c.loop-term.sum = sym c.loop-term.invariant.rest ∙ ap (λ l. product_from c.loop-term.sum l c.args.right.now.terms) all in
    search (rules, whole)
