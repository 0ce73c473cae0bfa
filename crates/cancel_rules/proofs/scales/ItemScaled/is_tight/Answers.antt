use Rattle.cancel_rules.proofs.Prelude.{rules, ◌≡◌, to_z, of_z}
use mir.Syntax.{w128}
use Rattle.cancel_rules.proofs.scales.ItemScaled.is_tight.Goals as goal

pub returns-in-Lemma : goal.returns-in-Lemma
returns-in-Lemma c =
    let is : to_z w128 (of_z w128 c.args.denominator) ≡ c.args.denominator = search rules in
    rw c.in-Lemma.is (rw is at c.is_tight.ensures)
