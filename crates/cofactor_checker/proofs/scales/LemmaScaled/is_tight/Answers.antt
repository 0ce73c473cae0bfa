use Rattle.cofactor_checker.proofs.Prelude.{rules, ◌≡◌, to_z, of_z}
use mir.Syntax.{w128}
use Rattle.cofactor_checker.proofs.scales.LemmaScaled.is_tight.Goals as goal

pub returns : goal.returns
returns c =
    let is : to_z w128 (of_z w128 c.args.denominator) ≡ c.args.denominator = search rules in
    let scale_is : to_z w128 (of_z w128 c.args.self.now.scale) ≡ c.args.self.now.scale = search rules in
    rw (is, scale_is) at c.divides.ensures
