use Rattle.nc_polynomial.proofs.Prelude.{rules, ◌≡◌, Err, Explains, product_step, terms_in, IsShaped}
use Rattle.nc_polynomial.proofs.Products.{canonical_sum}
use Rattle.nc_polynomial.proofs.Results.{ok_part}
use Rattle.nc_polynomial.proofs.Tables.{shaped-running}
use Rattle.nc_polynomial.proofs.running.RunningSum.add_moved.Goals as goal

pub returns-in_err-multiple-clause-exact : goal.returns-in_err-multiple-clause-exact
returns-in_err-multiple-clause-exact c =
    let e = c.in_err-multiple.field-0.0 in
    let given : c.from_residual.result ≡ Err e = search rules in
    let why : Explains (product_step c.args.self.now (c.args.coefficient, c.args.word.now) c.args.poly.now.terms) e = search (rules, c.in_err-multiple.ensures.fault c.args.self.now c.requires.canonical.shaped) in
    rw given why

pub returns-clause-canonical : goal.returns-clause-canonical
returns-clause-canonical c =
    let table = c.self.inside.table in
    let multiple = c.in_ok-multiple.multiple in
    let shaped : IsShaped multiple = search rules in
    ok_part c.add_within.result _
    (λ done e. canonical_sum (terms_in table) multiple (terms_in c.add_within.new.table) (shaped-running table c.self.invariant.0 c.self.invariant.1) shaped e)
    c.add_within.ensures.exact
