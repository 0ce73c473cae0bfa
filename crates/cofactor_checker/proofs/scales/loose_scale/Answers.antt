use Rattle.cofactor_checker.proofs.Prelude.{rules, ◌≡◌, All, inl, inr, refl, to_z, of_z}
use mir.Syntax.{w128}
use Rattle.cofactor_checker.proofs.Each.{clash}
use Rattle.cofactor_checker.proofs.scales.loose_scale.Goals as goal

pub returns-in-Some-clause-loose : goal.returns-in-Some-clause-loose
returns-in-Some-clause-loose g c =
    let is : to_z w128 (of_z w128 c.args.denominator) ≡ c.args.denominator = search rules in
    inl (rw is at c.in-Some.ensures.loose)

pub returns-then-divides-clause-tight : goal.returns-then-divides-clause-tight
returns-then-divides-clause-tight g c =
    let is : to_z w128 (of_z w128 c.args.denominator) ≡ c.args.denominator = search rules in
    let scale_is : to_z w128 (of_z w128 c.args.goal.now.scale) ≡ c.args.goal.now.scale = search rules in
    let each : All (g.I.Scaled.tight c.args.denominator) c.args.items.now = search rules in
    (each, rw (is, scale_is) at c.divides.ensures.0 c.if-divides.true)

pub returns-else-divides-clause-loose : goal.returns-else-divides-clause-loose
returns-else-divides-clause-loose g c =
    let is : to_z w128 (of_z w128 c.args.denominator) ≡ c.args.denominator = search rules in
    let scale_is : to_z w128 (of_z w128 c.args.goal.now.scale) ≡ c.args.goal.now.scale = search rules in
    let each : All (g.I.Scaled.tight c.args.denominator) c.args.items.now = search rules in
    inr (each, (refl, λ tight. clash c.divides.result (c.divides.ensures.1 (rw (is, scale_is) tight)) c.if-divides.false))
