use Rattle.closed_checker.proofs.Prelude.{rules, ◌≡◌, ◌+◌, [], ◌∷◌, ◌++◌, length, sym, ap, ◌∙◌, subst, arith, length_push, ListsExactly, Lead}
use Rattle.closed_checker.proofs.Tables.{ByNumber, IsEarly, early-more, early-all, lead-at}
use Rattle.closed_checker.proofs.table.list_leads.Goals as goal

pub loop-rule-preserved : goal.loop-rule-preserved
loop-rule-preserved c =
    let all = c.args.rules.now in
    let n = c.loop-rule.rule-index in
    let g = c.rule-item.result in
    let leads = c.loop-rule.leads.items in
    let lead : Lead = record { letters = c.in_ok-letters.letters; number = c.len.result + 1 } in
    let count : c.len.result ≡ n = search rules in
    let number : c.len.result + 1 ≡ n + 1 = omega (arith, count) in
    let pushed : c.push.new.self.items ≡ leads ++ lead ∷ [] = search rules in
    record {
      counted = ap length pushed ∙ length_push leads lead ∙ ap (λ k. k + 1) c.loop-rule.invariant.counted;
      exact = subst (ListsExactly ByNumber (IsEarly all (n + 1))) (sym pushed)
          (early-more all n lead leads (lead-at all n g lead (omega arith) c.rule-item.is c.in_ok-letters.ensures number) number c.loop-rule.invariant.exact);
    }

pub returns : goal.returns
returns c = early-all c.args.rules.now c.loop-rule.rule-index c.loop-rule.leads.items (omega arith) c.loop-rule.invariant.exact
