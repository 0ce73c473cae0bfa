use Rattle.claim_decider.proofs.Prelude.{rules, ◌≡◌, ◌<◌, get_or, length, sym, subst, ◌∙◌, arith, Case, IsNumber, Follows}
use Rattle.claim_decider.proofs.CaseLists.{same_item, others_stay, one_more}
use Rattle.claim_decider.proofs.claims.follow_all.Goals as goal

pub follow-requires-clause-number : goal.follow-requires-clause-number
follow-requires-clause-number c =
    let i = c.loop-case.case-index in
    let xs = c.loop-case.case-items in
    let olds = c.args.cases.now.items in
    let item = c.case-item.result in
    let below : i < length xs = search rules in
    let long : length xs ≡ length olds = c.loop-case.invariant.one_each in
    let same : get_or xs i item ≡ get_or olds i item = same_item xs olds i item below long c.loop-case.invariant.others in
    subst (λ (x : Case). IsNumber c.args.problem.now x.number) (sym same) (c.requires.numbers i item (omega arith))

pub loop-case-preserved : goal.loop-case-preserved
loop-case-preserved c =
    let i = c.loop-case.case-index in
    let xs = c.loop-case.case-items in
    let olds = c.args.cases.now.items in
    let old = c.case-item.result in
    let new = c.follow.new.case in
    let below : i < length xs = search rules in
    let long : length xs ≡ length olds = c.loop-case.invariant.one_each in
    let same : get_or xs i old ≡ get_or olds i old = same_item xs olds i old below long c.loop-case.invariant.others in
    let is : old ≡ get_or xs i old = search rules in
    let here : get_or olds i old ≡ old = sym (is ∙ same) in
    let followed = Follows c.args.format c.args.problem.now c.args.completion.now c.args.step in
    record {
      followed = one_more followed xs olds i old new below long c.loop-case.invariant.others c.loop-case.invariant.followed here (subst (λ x. followed x new) (sym is) c.in_ok-follow.ensures);
      others = others_stay xs olds i old new below long c.loop-case.invariant.others;
      one_each = search rules;
    }
