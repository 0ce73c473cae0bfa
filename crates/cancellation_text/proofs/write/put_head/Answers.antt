use Rattle.cancellation_text.proofs.Prelude.{◌≡◌, ◌++◌, OnOk, rules, subst, to_z, of_z, codes, opening_text, w128}
use Rattle.cancellation_text.proofs.write.put_head.Goals as goal

pub returns : goal.returns
returns c =
    let same : to_z w128 (of_z w128 c.args.proof.now.denominator) ≡ c.args.proof.now.denominator = search rules in
    subst (λ d. OnOk c.put_opening.result (c.put_opening.new.out.items ≡ c.args.out.now.items ++ opening_text (codes "cancellation 1\nclaim ") c.args.proof.now.claim d)) same c.put_opening.ensures
