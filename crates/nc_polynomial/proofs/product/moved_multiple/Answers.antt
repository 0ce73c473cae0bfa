use Rattle.nc_polynomial.proofs.Prelude.{rules, ◌≡◌, [], Ok, MatchResult, poly_between, products, shifted, checked, sized, Explains}
use Rattle.nc_polynomial.proofs.Products.{step_adds, step_fails, shaped_shift, short_shift}
use Rattle.nc_polynomial.proofs.Results.{ok_part, err_part}
use Rattle.nc_polynomial.proofs.product.moved_multiple.Goals as goal

-- what the moved factor and its multiple are
within : (c : goal.After-drop-empty-inside-2) → sized (poly_between c.args.word.now c.args.poly.now.terms []) ≡ Ok (poly_between c.args.word.now c.args.poly.now.terms [])
within c = search rules

made : (c : goal.After-drop-empty-inside-2) → MatchResult c.shift_terms.result (λ v. checked (products c.args.coefficient c.args.poly.now.terms) (shifted c.args.coefficient c.args.word.now c.args.poly.now.terms []) ≡ Ok v) (Explains (checked (products c.args.coefficient c.args.poly.now.terms) (shifted c.args.coefficient c.args.word.now c.args.poly.now.terms [])))
made c = search rules

pub returns-clause-shaped : goal.returns-clause-shaped
returns-clause-shaped c =
    let q = c.args.poly.now in
    ok_part c.shift_terms.result _ (λ v fits. shaped_shift c.args.coefficient c.args.word.now q.terms [] v q.canonical.shaped fits) (made c)

pub returns-clause-short : goal.returns-clause-short
returns-clause-short c =
    let q = c.args.poly.now in
    ok_part c.shift_terms.result _ (λ v fits. short_shift c.args.coefficient c.args.word.now q.terms v q.canonical.shaped (within c) fits) (made c)

pub returns-clause-step : goal.returns-clause-step
returns-clause-step c =
    ok_part c.shift_terms.result _ (λ v fits sum shaped. step_adds sum c.args.coefficient c.args.word.now c.args.poly.now.terms v shaped (within c) fits) (made c)

pub returns-clause-fault : goal.returns-clause-fault
returns-clause-fault c =
    err_part c.shift_terms.result _ (λ e why sum shaped. step_fails sum c.args.coefficient c.args.word.now c.args.poly.now.terms e shaped (within c) why) (made c)
