use Rattle.rule_index.proofs.Prelude.{◌≡◌, [], ◌∷◌, length, ap, arith, rules, root}
use Rattle.rule_index.proofs.Chained.{lettered-none}
use Rattle.rule_index.proofs.tree.new_tree.Goals as goal

pub returns : goal.returns
returns c =
    let nodes = c.push.new.self.items in
    let heads = c.in_ok-empty_buckets.field-0.items in
    let nexts = c.push-4.new.self.items in
    let nodes_are : nodes ≡ root ∷ [] = search rules in
    let nexts_are : nexts ≡ 0 ∷ [] = search rules in
    record {
      nodes = nodes_are;
      lettered = lettered-none nodes heads nexts (ap length nodes_are) (omega (arith, c.in_ok-empty_buckets.ensures.len)) (ap length nexts_are) c.in_ok-empty_buckets.ensures.none;
      heads = search rules;
      nexts = search rules;
      links = search rules;
      leasts = search rules;
    }
