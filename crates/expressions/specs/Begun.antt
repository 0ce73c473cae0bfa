-- A product whose last word isn't multiplied in yet.
use Rattle.std.specs.Prelude.{[], Result}
use Rattle.definitions.specs.Poly.{Poly}
use Rattle.nc_polynomial.specs.declared.fault.PolyFault.{PolyFault}
use Rattle.nc_polynomial.specs.Product.{moved_result, product_result}
use Rattle.expressions.specs.Results.{◌>>=◌}
use Rattle.expressions.specs.declared.polynomial.Begun.{Begun}

-- the product that it represents
abbrev pub product_begun : Begun → Result Poly PolyFault
product_begun b = moved_result [] b.product.terms b.word

-- that product times one more
abbrev pub product_followed : Begun → Poly → Result Poly PolyFault
product_followed b next = product_begun b >>= λ p. product_result p next
