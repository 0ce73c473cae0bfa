use Rattle.rule_reduce.proofs.Prelude.{◌≡◌, pos, ap, subst, arith, of_z, eqb-true, eq-eqb, ints, IsContent}
use mir.Syntax.{w128}
use Rattle.rule_reduce.proofs.MadeRules.{one_content}
use Rattle.rule_reduce.proofs.making.is_primitive.Goals as goal

pub returns : goal.returns
returns c =
    let p = c.args.poly.now.terms in
    let content = c.content.result in (
      λ yes. let bits : of_z w128 content ≡ 1 = eqb-true (of_z w128 content) 1 yes in let one : content ≡ pos 1 = omega (arith, ints) in subst (IsContent p) one c.content.ensures.exact,
      λ primitive. eq-eqb (of_z w128 content) 1 (ap (of_z w128) (one_content p content (pos 1) c.content.ensures.exact primitive)),
    )
