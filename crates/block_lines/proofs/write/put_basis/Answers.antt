use Rattle.block_lines.proofs.Prelude.{◌≡◌, ℕ, List, ◌++◌, Result, Ok, Err, OnOk, rules, arith, refl, ◌∙◌, subst, take, append_assoc, codes, decimal, flat_map, take_all, poly_text, rule_line}
use Rattle.block_lines.proofs.write.put_basis.Goals as goal

seven_put : {E : Type 0} (r : Result (Unit {0}) E) (before a b c d e f g one two three four five six last : List ℕ)
    → one ≡ before ++ a → two ≡ one ++ b → three ≡ two ++ c → four ≡ three ++ d → five ≡ four ++ e → six ≡ five ++ f → OnOk r (last ≡ six ++ g)
    → OnOk r (last ≡ before ++ ((((((a ++ b) ++ c) ++ d) ++ e) ++ f) ++ g))
seven_put (Ok done) before a b c d e f g one two three four five six last one_is two_is three_is four_is five_is six_is last_is =
    last_is ∙ rw (six_is, five_is, four_is, three_is, two_is, one_is) (simp append_assoc refl)
seven_put (Err failed) before a b c d e f g one two three four five six last one_is two_is three_is four_is five_is six_is last_is = tt

pub returns : goal.returns
returns c =
    let all : take c.loop-rule.rule-index c.args.rules.now ≡ c.args.rules.now = take_all c.loop-rule.rule-index c.args.rules.now (omega (arith, c.loop-rule-test.false)) in
    let front : c.put.new.out.items ≡ c.args.out.now.items ++ codes "basis 1\nclaim " = search rules in
    let number : c.put_number.new.out.items ≡ c.put.new.out.items ++ decimal c.args.claim = search rules in
    let line : c.put-2.new.out.items ≡ c.put_number.new.out.items ++ codes "\n" = search rules in
    let each : c.loop-rule.out.items ≡ c.put-2.new.out.items ++ flat_map (rule_line c.args.quiver.now) c.args.rules.now =
    subst (λ ps. c.loop-rule.out.items ≡ c.put-2.new.out.items ++ flat_map (rule_line c.args.quiver.now) ps) all c.loop-rule.invariant in
    let word : c.put-3.new.out.items ≡ c.loop-rule.out.items ++ codes "rest " = search rules in
    let rest : c.put_poly.new.out.items ≡ c.put-3.new.out.items ++ poly_text c.args.quiver.now c.args.rest.now.terms = search rules in
    seven_put c.put-4.result c.args.out.now.items _ _ _ _ _ _ _ _ _ _ _ _ _ c.put-4.new.out.items front number line each word rest c.put-4.ensures
