use Rattle.nc_polynomial.proofs.Prelude.{sym, ◌∙◌}
use Rattle.nc_polynomial.proofs.Results.{ok_part}
use Rattle.nc_polynomial.proofs.Units.{difference_is, difference_value}
use Rattle.nc_polynomial.proofs.poly.Poly.subtract.Goals as goal

pub returns-clause-exact : goal.returns-clause-exact
returns-clause-exact c =
    let p = c.args.self.now in
    let q = c.args.other.now in
    rw (← difference_is p.terms q.terms p.canonical.shaped q.canonical.shaped) c.combine.ensures.exact

pub returns-clause-difference : goal.returns-clause-difference
returns-clause-difference c =
    let p = c.args.self.now in
    let q = c.args.other.now in
    let difference = difference_is p.terms q.terms p.canonical.shaped q.canonical.shaped in
    ok_part c.combine.result _ (λ r exact. difference_value p.terms q.terms r.terms (sym difference ∙ exact)) c.combine.ensures.exact
