use Rattle.nc_polynomial.proofs.Prelude.{sym, ◌∙◌}
use Rattle.nc_polynomial.proofs.Results.{ok_part}
use Rattle.nc_polynomial.proofs.Units.{sum_is, sum_value}
use Rattle.nc_polynomial.proofs.poly.Poly.add.Goals as goal

pub returns-clause-exact : goal.returns-clause-exact
returns-clause-exact c =
    let p = c.args.self.now in
    let q = c.args.other.now in
    rw (← sum_is p.terms q.terms p.canonical.shaped q.canonical.shaped) c.combine.ensures.exact

pub returns-clause-sum : goal.returns-clause-sum
returns-clause-sum c =
    let p = c.args.self.now in
    let q = c.args.other.now in
    let sum = sum_is p.terms q.terms p.canonical.shaped q.canonical.shaped in
    ok_part c.combine.result _ (λ r exact. sum_value p.terms q.terms r.terms (sym sum ∙ exact)) c.combine.ensures.exact
