use Rattle.cofactor_trace.proofs.Prelude.{rules, ◌≡◌, ◌*ℤ◌, ◌<ℤ◌, pos, int_div, IfOk, IfErr, IsOk, ◌↔◌, sym, subst, IfOk-weaker, gcd_of, product_of, IsCoefficient, lcm_of}
use Rattle.cofactor_trace.proofs.Divisors.{lcm_of-positive}
use Rattle.cofactor_trace.proofs.Operations.{checked_product, checked_product-in_range}
use Rattle.cofactor_trace.proofs.divisor.raise.Goals as goal

pub returns-clause-exact : goal.returns-clause-exact
returns-clause-exact c =
    let x = c.args.common in
    let y = int_div c.args.scale (gcd_of x c.args.scale) in
    let product : IfOk c.times.result (λ z. z ≡ x *ℤ y) = search rules in
    let fits : IsOk c.times.result ↔ IsCoefficient (x *ℤ y) = search rules in
    let operands : IfErr c.times.result (λ o. o ≡ product_of x y) = search rules in
    checked_product c.times.result x y product fits operands

pub returns-clause-in_range : goal.returns-clause-in_range
returns-clause-in_range c =
    let x = c.args.common in
    let y = int_div c.args.scale (gcd_of x c.args.scale) in
    let product : IfOk c.times.result (λ z. z ≡ x *ℤ y) = search rules in
    let fits : IsOk c.times.result ↔ IsCoefficient (x *ℤ y) = search rules in
    checked_product-in_range c.times.result x y product fits

pub returns-clause-positive : goal.returns-clause-positive
returns-clause-positive c =
    let common_in : pos 0 <ℤ c.args.common = search rules in
    let scale_in : pos 0 <ℤ c.args.scale = search rules in
    let multiple_is : IfOk c.times.result (λ d. d ≡ lcm_of c.args.common c.args.scale) = search rules in
    IfOk-weaker c.times.result _ _ (λ d same. subst (λ z. pos 0 <ℤ z) (sym same) (lcm_of-positive c.args.common c.args.scale common_in scale_in)) multiple_is
