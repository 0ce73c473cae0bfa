use Rattle.rule_reduce.proofs.Prelude.{rules, ◌≡◌, ◌<◌, ◌+◌, ◌++◌, ℕ, [], ◌∷◌, List, length, take, arith, sym, ap, ap₂, ◌∙◌, subst, All, take-append_seam, length-append, All-push, Rule, IsRule, entries_of}
use Rattle.rule_reduce.proofs.Numbers.{entries_of-below, entries_from-push}
use Rattle.rule_reduce.proofs.rules.Rules.push.Goals as goal

pub insert-requires-clause-above : goal.insert-requires-clause-above
insert-requires-clause-above g c =
    let all = c.args.self.now.rules in
    let size : c.len-count.result ≡ length all = search rules in
    subst (All (λ e. e.1 < c.len-count.result + 1)) (sym c.args.self.now.indexed) (entries_of-below all (c.len-count.result + 1) (omega (arith, size)))

pub invariant_of-self-in-Ok : goal.invariant_of-self-in-Ok
invariant_of-self-in-Ok g c =
    let all = c.args.self.now.rules in
    let rule = c.in_ok-rule.rule in
    let lead = c.in_ok-lead.lead in
    let count = c.len-count.result in
    let Each = IsRule (g.O.WordOrder.letters c.args.self.now.order) (g.O.WordOrder.compare c.args.self.now.order) in
    let is_rule : Each rule = search rules in
    let pushed : c.push.new.self ≡ all ++ rule ∷ [] = search rules in
    let inserted : c.insert.new.self ≡ c.args.self.now.index ++ (lead, count + 1) ∷ [] = search rules in
    let copied : lead ≡ rule.lead = search rules in
    let size : count ≡ length all = search rules in
    let number : count + 1 ≡ 1 + length all = omega (arith, size) in
    let longer : length c.push.new.self ≡ length all + 1 = ap length pushed ∙ length-append all (rule ∷ []) in
    record {
      each = subst (All Each) (sym pushed) (All-push Each all rule c.args.self.now.each is_rule);
      indexed = inserted ∙ ap₂ (λ (es : List (List ℕ × ℕ)) (e : List ℕ × ℕ). es ++ e ∷ []) c.args.self.now.indexed (λ i. (copied i, number i)) ∙ sym (entries_from-push 1 all rule) ∙ ap entries_of (sym pushed);
      few = omega (arith, longer, c.requires.few);
    }

pub invariant_of-self-in-Err : goal.invariant_of-self-in-Err
invariant_of-self-in-Err g c =
    let all = c.args.self.now.rules in
    let rule = c.in_ok-rule.rule in
    let count = c.len-count.result in
    let Each = IsRule (g.O.WordOrder.letters c.args.self.now.order) (g.O.WordOrder.compare c.args.self.now.order) in
    let pushed : c.push.new.self ≡ all ++ rule ∷ [] = search rules in
    let size : count ≡ length all = search rules in
    let cut : c.truncate.new.self ≡ take count c.push.new.self = search rules in
    let unchanged : c.insert.new.self ≡ c.args.self.now.index = search rules in
    let back : c.truncate.new.self ≡ all = cut ∙ ap₂ take size pushed ∙ take-append_seam all (rule ∷ []) in
    record {
      each = subst (All Each) (sym back) c.args.self.now.each;
      indexed = unchanged ∙ c.args.self.now.indexed ∙ ap entries_of (sym back);
      few = subst (λ (rs : List Rule). length rs < 4294967296) (sym back) c.args.self.now.few;
    }
