use Rattle.coef_int.proofs.Prelude.{rules, ◌≡◌, suc, pos, ◌<ℤ◌, to_z, of_z, arith, ap, ◌∙◌, sym, subst, IsGcd, unsigned_abs, ints, gcd_within}
use mir.Syntax.{w128}
use Rattle.coef_int.proofs.Divisors.{gcd_same, gcd_of-positive, gcd_of-positive_right}
use Rattle.coef_int.proofs.quotients.divisor.Goals as goal

pub returns-clause-same : goal.returns-clause-same
returns-clause-same c =
    let left = unsigned_abs c.args.x in
    let right = unsigned_abs c.args.y in
    let back_x : to_z w128 (of_z w128 c.args.x) ≡ c.args.x = search rules in
    let back_y : to_z w128 (of_z w128 c.args.y) ≡ c.args.y = search rules in
    let divides : IsGcd left right (unsigned_abs c.gcd.result) = rw (back_x, back_y) at c.gcd.ensures.divisor in
    let same : unsigned_abs c.gcd.result ≡ gcd_within (suc right) left right = gcd_same left right (unsigned_abs c.gcd.result) divides in
    let sign : c.gcd.result ≡ pos (unsigned_abs c.gcd.result) = omega (arith, ints, c.gcd.ensures.sign) in
    let whole : c.gcd.result ≡ pos (gcd_within (suc right) left right) = sign ∙ ap pos same in
    search (rules, whole)

pub returns-clause-positive : goal.returns-clause-positive
returns-clause-positive c = λ above. subst (λ z. pos 0 <ℤ z) (sym (returns-clause-same c)) (gcd_of-positive c.args.x c.args.y above)

pub returns-clause-positive_right : goal.returns-clause-positive_right
returns-clause-positive_right c = λ above. subst (λ z. pos 0 <ℤ z) (sym (returns-clause-same c)) (gcd_of-positive_right c.args.x c.args.y above)
