use Rattle.nc_polynomial.proofs.Prelude.{rules, ◌≡◌, Ok, sym, subst, poly_between, IsCanonical, sized}
use Rattle.nc_polynomial.proofs.Around.{shaped-between}
use Rattle.nc_polynomial.proofs.Products.{canonical_sized}
use Rattle.nc_polynomial.proofs.poly.Poly.left_right.Goals as goal

pub invariant_of-result : goal.invariant_of-result
invariant_of-result c =
    let l = c.args.left.now in
    let p = c.args.self.now.terms in
    let r = c.args.right.now in
    let within : sized (poly_between l p r) ≡ Ok (poly_between l p r) = search rules in
    let moved : c.in_ok-moved.moved ≡ poly_between l p r = search rules in
    record { canonical = subst IsCanonical (sym moved) (canonical_sized (poly_between l p r) (poly_between l p r) (shaped-between l r p c.args.self.now.canonical.shaped) within) }
