use Rattle.closed_checker.proofs.Prelude.{rules, ◌≡◌, ◌<◌, ◌≤◌, ◌+◌, ◌++◌, pos, true, false, length, take, get_or, option_to_list, sym, ap, ap₂, subst, ◌∙◌, arith, length-append, All-more, made_cmp, letters_of, IsContent, Poly, rule_from, letter_count, order_of, MayBeRule}
use Rattle.closed_checker.proofs.MadeRules.{one_rule, rules_more, lacks_rule}
use Rattle.closed_checker.proofs.rules.make_rules.Goals as goal

pub returns-then-not-may_be_rule-clause-refused : goal.returns-then-not-may_be_rule-clause-refused
returns-then-not-may_be_rule-clause-refused c =
    let problem = c.args.problem.now in
    let b = c.args.basis.now in
    let p = c.poly-item.result in
    let i = c.loop-poly.poly-index in
    let so_far = c.loop-poly.invariant in
    let polys = c.as_slice-poly-items.result.now in
    let items : polys ≡ b.rules = search rules in
    let inside : i < length b.rules = omega (arith, c.loop-poly-test.true, ap length items) in
    let is : p ≡ get_or b.rules i p = c.poly-item.is ∙ ap (λ ps. get_or ps i p) items in
    let no : c.may_be_rule.result ≡ false = search rules in
    let refused : MayBeRule (order_of problem) p → ⊥ =
    λ may. let yes : c.may_be_rule.result ≡ true = c.may_be_rule.ensures.1 (subst (λ compare. MayBeRule compare p) (sym so_far.compares) may) in cc in
    lacks_rule problem b (c.loop-poly.number + 1) i p c.requires.claim (omega (arith, so_far.numbered)) inside is
    (subst (λ ps. (k : _) → (d : Poly) → k < length (take i ps) → MayBeRule (order_of problem) (get_or (take i ps) k d)) items so_far.passed) refused

pub push-requires-clause-primitive : goal.push-requires-clause-primitive
push-requires-clause-primitive c =
    let copied : c.in_ok-copy.field-0 ≡ c.poly-item.result = c.in_ok-copy.ensures in
    let yes : c.may_be_rule.result ≡ true = search rules in
    subst (λ (q : Poly). IsContent q.terms (pos 1)) (sym copied) (c.may_be_rule.ensures.0 yes).primitive

pub loop-poly-preserved : goal.loop-poly-preserved
loop-poly-preserved c =
    let problem = c.args.problem.now in
    let p = c.poly-item.result in
    let i = c.loop-poly.poly-index in
    let so_far = c.loop-poly.invariant in
    let polys = c.as_slice-poly-items.result.now in
    let old = c.loop-poly.rules in
    let new = c.push.new.self in
    let yes : c.may_be_rule.result ≡ true = search rules in
    let may : MayBeRule (order_of problem) p = subst (λ compare. MayBeRule compare p) so_far.compares (c.may_be_rule.ensures.0 yes) in
    let copied : c.in_ok-copy.field-0 ≡ p = c.in_ok-copy.ensures in
    let order : new.order ≡ old.order = search rules in
    let pushed : new.rules ≡ old.rules ++ option_to_list (rule_from (made_cmp old.order) c.in_ok-copy.field-0) = search rules in
    let made : new.rules ≡ old.rules ++ option_to_list (rule_from (order_of problem) p) =
    pushed ∙ (λ n. old.rules ++ option_to_list (rule_from (so_far.compares n) (copied n))) in
    record {
      numbered = omega (arith, so_far.numbered);
      counted = ap length made ∙ length-append old.rules (option_to_list (rule_from (order_of problem) p)) ∙ ap₂ ◌+◌ so_far.counted (one_rule (order_of problem) p may);
      made = made ∙ ap (λ rs. rs ++ option_to_list (rule_from (order_of problem) p)) so_far.made ∙ sym (rules_more (order_of problem) polys i p c.loop-poly-test.true c.poly-item.is);
      compares = ap made_cmp order ∙ so_far.compares;
      letters = subst (λ o. letter_count problem.parts.quiver ≤ letters_of o) (sym order) so_far.letters;
      passed = All-more (MayBeRule (order_of problem)) polys i p c.loop-poly-test.true so_far.passed (subst (MayBeRule (order_of problem)) c.poly-item.is may);
    }
