use Rattle.normal_category.proofs.Prelude.{◌≡◌, ◌≢◌, [], suc, arith, get_or, slice_get, Some, slice_get-get_or, rule_at-all, Rule, IsTypedIn}
use Rattle.normal_category.proofs.PassedRules.{stopped, passed_on, all_passed, empty_tells, full_tells}
use Rattle.normal_category.proofs.passes.first_untyped.Goals as goal

pub returns-then-is_none-clause-found : goal.returns-then-is_none-clause-found
returns-then-is_none-clause-found c =
    let rules = c.args.rules.now in
    let place = c.loop-place.place in
    let rule = get_or rules place c.index-rules-place.result in
    let here : slice_get rules place ≡ Some rule = slice_get-get_or rules place c.index-rules-place.result c.loop-place-test.true in
    stopped (IsTypedIn c.args.parts.now) rules place rule here c.loop-place.invariant
    (λ typed. empty_tells c.poly_signature.result c.is_none.result c.is_none.ensures c.if-is_none.true c.poly_signature.ensures.untyped
    typed.source typed.target
    (rule_at-all (λ (g : Rule). g.poly.terms ≢ []) rules (suc place) rule here c.requires.nonzero) typed.typed)

pub loop-place-preserved : goal.loop-place-preserved
loop-place-preserved c =
    let rules = c.args.rules.now in
    let place = c.loop-place.place in
    let rule = get_or rules place c.index-rules-place.result in
    let here : slice_get rules place ≡ Some rule = slice_get-get_or rules place c.index-rules-place.result c.loop-place-test.true in
    let found = full_tells c.poly_signature.result c.is_none.result c.is_none.ensures c.if-is_none.false c.poly_signature.ensures.typed in
    passed_on (IsTypedIn c.args.parts.now) rules place rule here c.loop-place.invariant
    (record { source = found.0.source.0; target = found.0.target.0; typed = found.1 })

pub returns-clause-none : goal.returns-clause-none
returns-clause-none c = all_passed (IsTypedIn c.args.parts.now) c.args.rules.now c.loop-place.place
    (omega (arith, c.loop-place-test.false)) c.loop-place.invariant
