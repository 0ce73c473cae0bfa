use Rattle.nc_polynomial.proofs.Prelude.{terms_in}
use Rattle.nc_polynomial.proofs.Products.{canonical_sum}
use Rattle.nc_polynomial.proofs.Results.{ok_part}
use Rattle.nc_polynomial.proofs.Tables.{shaped-running}
use Rattle.nc_polynomial.proofs.running.RunningSum.add.Goals as goal

pub returns-clause-canonical : goal.returns-clause-canonical
returns-clause-canonical c =
    let table = c.self.inside.table in
    ok_part c.add_within.result _
    (λ done e. canonical_sum (terms_in table) c.args.poly.terms (terms_in c.add_within.new.table) (shaped-running table c.self.invariant.0 c.self.invariant.1) c.args.poly.canonical.shaped e)
    c.add_within.ensures.exact
