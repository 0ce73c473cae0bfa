use Rattle.ambiguities.proofs.Prelude.{rules, ◌≡◌, Ok, subst, s_polynomial_of}
use Rattle.ambiguities.proofs.Bounds.{over_terms}
use Rattle.ambiguities.proofs.polynomial.s_poly.Goals as goal

pub returns-clause-over : goal.returns-clause-over
returns-clause-over g c =
    let order = c.args.rules.now.order in
    let same : c.as_slice-all.result.now ≡ c.args.rules.now.rules = search rules in
    let made : s_polynomial_of c.args.rules.now.rules c.args.which.now ≡ Ok c.in_ok-poly.poly.terms =
    subst (λ rs. s_polynomial_of rs c.args.which.now ≡ Ok c.in_ok-poly.poly.terms) same c.in_ok-poly.ensures in
    over_terms (g.O.WordOrder.letters order) (g.O.WordOrder.compare order) (g.O.WordOrder.rank order) c.args.rules.now.rules c.args.which.now
    c.in_ok-poly.poly.terms (g.met.O.WordOrder.admissible order) c.args.rules.now.each c.requires made c.in_ok-poly.poly.canonical.shaped

pub returns-clause-exact : goal.returns-clause-exact
returns-clause-exact g c =
    let same : c.as_slice-all.result.now ≡ c.args.rules.now.rules = search rules in
    subst (λ rs. s_polynomial_of rs c.args.which.now ≡ Ok c.in_ok-poly.poly.terms) same c.in_ok-poly.ensures
