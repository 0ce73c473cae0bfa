use Rattle.coef_int.proofs.Prelude.{◌≡◌, arith, rules, pos, to_z, unsigned_abs, ints}
use mir.Syntax.{w128}
use Rattle.coef_int.proofs.gcd.Goals as goal

pub returns-clause-divisor : goal.returns-clause-divisor
returns-clause-divisor c =
    let same : to_z w128 c.gcd_of.result ≡ pos c.gcd_of.result = omega (arith, ints) in
    let left : c.unsigned_abs.result ≡ unsigned_abs c.args.left = search rules in
    let right : c.unsigned_abs-2.result ≡ unsigned_abs c.args.right = search rules in
    rw same (rw (left, right) at c.gcd_of.ensures.divisor)
