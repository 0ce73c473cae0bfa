use Rattle.nc_polynomial.proofs.Prelude.{rules, ◌≡◌, [], Err, arith, sum_result, Explains, product_step, IsShaped}
use Rattle.nc_polynomial.proofs.OneTerm.{one-left, one-left_fault}
use Rattle.nc_polynomial.proofs.product.from_left.Goals as goal

shaped_none : IsShaped []
shaped_none = record { descending = λ i j x h k. absurd (omega arith); nonzero = λ i x h. absurd (omega arith); in_range = λ i x h. absurd (omega arith) }

pub returns-in_err-multiple : goal.returns-in_err-multiple
returns-in_err-multiple c =
    let t = c.args.term.now in
    let q = c.args.right.now.terms in
    let e = c.in_err-multiple.field-0.0 in
    let given : c.from_residual.result ≡ Err e = search rules in
    let why : Explains (product_step [] t q) e = search (rules, c.in_err-multiple.ensures.fault [] shaped_none) in
    rw given (one-left_fault t q e why)

pub returns : goal.returns
returns c =
    let t = c.args.term.now in
    let q = c.args.right.now.terms in
    let v = c.in_ok-multiple.multiple in
    let shaped : IsShaped v = search rules in
    let step : product_step [] t q ≡ sum_result [] v = search (rules, c.in_ok-multiple.ensures.step [] shaped_none) in
    rw (one-left t q v shaped step) c.from_descending.ensures
