use Rattle.traced_completion.proofs.Prelude.{rules, ◌≡◌, ◌++◌, [], ◌∷◌, Ok, Err, length, sym, ap, subst, ◌∙◌, arith, into_iter_items, nil_from_length, append-nil, Explains, MatchResult}
use Rattle.traced_completion.proofs.InOrder.{join, values, join-nil, value-next, explains-itself}
use Rattle.traced_completion.proofs.first_reductions.collect_answers.Goals as goal

pub loop-answer-init : goal.loop-answer-init
loop-answer-init c =
    let answers : into_iter_items c.into_iter-answer-iterator.result ≡ c.args.answers.items = search rules in
    record {
      left = search rules;
      joined = ap (λ done. join done (values (into_iter_items c.into_iter-answer-iterator.result))) c.new-firsts.ensures ∙ join-nil (values (into_iter_items c.into_iter-answer-iterator.result)) ∙ ap values answers;
    }

-- one more value is before what is left
pub loop-answer-preserved : goal.loop-answer-preserved
loop-answer-preserved c =
    let at = c.loop-answer in
    let first = c.in_ok-answer.field-0 in
    let rest = into_iter_items c.next.new.self in
    let is : c.in-Some.answer ≡ Ok first = search rules in
    let steps : into_iter_items at.answer-iterator ≡ c.in-Some.answer ∷ rest = c.in-Some.ensures.steps.0 in
    let next : into_iter_items at.answer-iterator ≡ Ok first ∷ rest = steps ∙ ap (λ answer. answer ∷ rest) is in
    let pushed : c.push.new.self ≡ at.firsts ++ first ∷ [] = search rules in
    record {
      left = let was = at.invariant.left in let gone = c.in-Some.ensures.steps.1 in let short = ap length steps in omega arith;
      joined = ap (λ done. join done (values rest)) pushed ∙ sym (value-next at.firsts first rest) ∙ ap (λ answers. join at.firsts (values answers)) (sym next) ∙ at.invariant.joined;
    }

-- the first fault is that of all answers
pub returns-in_err-answer : goal.returns-in_err-answer
returns-in_err-answer c =
    let at = c.loop-answer in
    let e = c.in_err-answer.field-0.0 in
    let rest = into_iter_items c.next.new.self in
    let is : c.in-Some.answer ≡ Err e = search rules in
    let next : into_iter_items at.answer-iterator ≡ Err e ∷ rest = c.in-Some.ensures.steps.0 ∙ ap (λ answer. answer ∷ rest) is in
    let all : values c.args.answers.items ≡ Err e = sym at.invariant.joined ∙ ap (λ answers. join at.firsts (values answers)) next in
    let back : c.from_residual.result ≡ Err e = search rules in
    subst (λ r. MatchResult r (λ firsts. values c.args.answers.items ≡ Ok firsts) (Explains (values c.args.answers.items))) (sym back)
    (explains-itself (values c.args.answers.items) e all)

pub returns : goal.returns
returns c =
    let at = c.loop-answer in
    let empty : into_iter_items at.answer-iterator ≡ [] = nil_from_length _ (sym at.invariant.left ∙ c.in-None.ensures.steps.0) in
    sym at.invariant.joined ∙ ap (λ answers. join at.firsts (values answers)) empty ∙ ap Ok (append-nil at.firsts)
