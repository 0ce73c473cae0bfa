use Rattle.nc_polynomial.proofs.Prelude.{rules, ◌≡◌, Ok, scaled, products, checked}
use Rattle.nc_polynomial.proofs.Chains.{shaped_scale}
use Rattle.nc_polynomial.proofs.Results.{ok_part}
use Rattle.nc_polynomial.proofs.Values.{scaled_value}
use Rattle.nc_polynomial.proofs.poly.Poly.scale.Goals as goal

pub from_descending-requires : goal.from_descending-requires
from_descending-requires c =
    let p = c.args.self.now.terms in
    let scaled_is : checked (products c.args.by p) (scaled c.args.by p) ≡ Ok c.in_ok-scale_terms.field-0 = search rules in
    shaped_scale c.args.by p c.in_ok-scale_terms.field-0 c.args.self.now.canonical.shaped scaled_is

pub returns-clause-multiple : goal.returns-clause-multiple
returns-clause-multiple c =
    let p = c.args.self.now.terms in
    let scaled_is : checked (products c.args.by p) (scaled c.args.by p) ≡ Ok c.in_ok-scale_terms.field-0 = search rules in
    ok_part c.from_descending.result _ (λ r limits. scaled_value c.args.by p c.in_ok-scale_terms.field-0 r.terms scaled_is limits) c.from_descending.ensures
