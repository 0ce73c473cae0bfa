use Rattle.rule_reduce.proofs.Prelude.{rules, ◌≡◌, ◌<◌, ◌≤◌, List, length, take, arith, sym, ap, ◌∙◌, subst, All, All-take, Rule, IsRule, entries_of}
use Rattle.rule_reduce.proofs.Numbers.{entries_of-take, no_longer}
use Rattle.rule_reduce.proofs.rules.Rules.truncate.Goals as goal

pub invariant_of-self : goal.invariant_of-self
invariant_of-self g c =
    let all = c.args.self.now.rules in
    let count = c.args.count in
    let Each = IsRule (g.O.WordOrder.letters c.args.self.now.order) (g.O.WordOrder.compare c.args.self.now.order) in
    let cut : c.truncate.new.self ≡ take count all = search rules in
    let cut_too : c.truncate-2.new.self ≡ take count c.args.self.now.index = search rules in
    let no_more : length (take count all) ≤ length all = no_longer count all in
    record {
      each = subst (All Each) (sym cut) (All-take Each count all c.args.self.now.each);
      indexed = cut_too ∙ ap (take count) c.args.self.now.indexed ∙ sym (entries_of-take count all) ∙ ap entries_of (sym cut);
      few = subst (λ (rs : List Rule). length rs < 4294967296) (sym cut) (omega (arith, no_more, c.args.self.now.few));
    }
