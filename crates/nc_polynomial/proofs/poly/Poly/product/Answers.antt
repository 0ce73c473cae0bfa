use Rattle.nc_polynomial.proofs.Products.{product_value}
use Rattle.nc_polynomial.proofs.Results.{ok_part}
use Rattle.nc_polynomial.proofs.poly.Poly.product.Goals as goal

pub returns-clause-product : goal.returns-clause-product
returns-clause-product c =
    ok_part c.multiplied_out.result _ (λ r e. product_value c.args.self.now.terms c.args.right.now.terms r.terms e) c.multiplied_out.ensures
