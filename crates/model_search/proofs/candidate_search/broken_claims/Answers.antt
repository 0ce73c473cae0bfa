use Rattle.model_search.proofs.Prelude.{◌≡◌, ◌<◌, ◌+◌, ◌++◌, ◌∷◌, [], length, get_or, Option, None, IsNone, sym, subst, ◌∙◌, rules, arith, get_or_default, All-get_or, quiver_of, IsClaimNumber, model_by, Found}
use Rattle.model_search.proofs.Tested.{TellFirst, tell_none, tell_more}
use Rattle.model_search.proofs.candidate_search.broken_claims.Goals as goal

pub loop-place-init : goal.loop-place-init
loop-place-init c = λ s numbered.
    let problem = c.args.pass.now.problem.now in
    tell_none problem (model_by (quiver_of problem.parts.quiver) s 0 c.args.values.now) c.args.pass.now.claims.now c.args.found.now
    c.in_ok-broken.broken c.in_ok-broken.ensures

pub is_broken-requires-clause-claim : goal.is_broken-requires-clause-claim
is_broken-requires-clause-claim c =
    All-get_or (IsClaimNumber c.args.pass.now.problem.now) c.args.pass.now.claims.now c.loop-place.place 0 c.loop-place-test.true c.requires.claims

pub loop-place-preserved : goal.loop-place-preserved
loop-place-preserved c = λ s numbered.
    let problem = c.args.pass.now.problem.now in
    let claims = c.args.pass.now.claims.now in
    let m = model_by (quiver_of problem.parts.quiver) s 0 c.args.values.now in
    let at = c.loop-place in
    let flag = c.is_broken.result in
    let one : Option Found = c.index-found-place.result in
    let within : at.place < length c.args.found.now = omega (arith, c.loop-place-test.true, c.requires.one_each) in
    let here : get_or c.args.found.now at.place None ≡ one = get_or_default c.args.found.now at.place None one within ∙ sym c.index-found-place.is in
    let pushed : c.push.new.self ≡ at.broken ++ flag ∷ [] = search rules in
    subst (TellFirst problem m claims c.args.found.now (at.place + 1)) (sym pushed)
    (tell_more problem m claims c.args.found.now at.place at.broken flag (at.invariant s numbered)
    (λ free. c.is_broken.ensures s numbered (subst IsNone here free)))

pub returns : goal.returns
returns c = λ s numbered.
    let problem = c.args.pass.now.problem.now in
    let all : c.loop-place.place ≡ length c.args.pass.now.claims.now =
    omega (arith, c.loop-place.auto.place-end, c.loop-place-test.false) in
    let told = subst (λ n. TellFirst problem (model_by (quiver_of problem.parts.quiver) s 0 c.args.values.now) c.args.pass.now.claims.now
    c.args.found.now n c.loop-place.broken) all (c.loop-place.invariant s numbered) in
    record { one_each = told.size; each = told.each }
