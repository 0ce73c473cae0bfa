use Rattle.claim_decider.proofs.Prelude.{rules, arith, ◌≡◌, [], ◌∷◌, ◌++◌, List, length, sym, ap, subst, ◌∙◌, append_assoc, AllZip, into_iter_items, nil_from_length, append-nil, All-rest, Outcome, Settled, IsSettled, Gives}
use Rattle.claim_decider.proofs.claims.outcomes.Goals as goal

pub loop-case-preserved : goal.loop-case-preserved
loop-case-preserved c =
    let case = c.in-Some.case in
    let o = c.in-Settled.outcome in
    let so_far = c.loop-case.outcomes in
    let rest = into_iter_items c.next.new.self in
    let next : into_iter_items c.loop-case.case-iterator ≡ case ∷ rest = c.in-Some.ensures.steps.0 in
    let pushed : c.push.new.self ≡ so_far ++ o ∷ [] = search rules in
    let is : case.standing ≡ Settled o = search rules in
    let gives : (later : List Outcome) → AllZip Gives rest later → AllZip Gives c.args.cases.items (c.push.new.self ++ later) = λ later zipped.
    let here : AllZip Gives (into_iter_items c.loop-case.case-iterator) (o ∷ later) = subst (λ l. AllZip Gives l (o ∷ later)) (sym next) (is, zipped) in
    let same : so_far ++ o ∷ later ≡ c.push.new.self ++ later = sym (ap (λ l. l ++ later) pushed ∙ append_assoc so_far (o ∷ []) later) in
    subst (AllZip Gives c.args.cases.items) same (c.loop-case.invariant.gives (o ∷ later) here) in
    record {
      left = let was = c.loop-case.invariant.left in let gone = c.in-Some.ensures.steps.1 in let short = ap length next in omega arith;
      settled = All-rest IsSettled case rest (into_iter_items c.loop-case.case-iterator) next c.loop-case.invariant.settled;
      gives = gives;
    }

pub returns : goal.returns
returns c =
    let none : into_iter_items c.loop-case.case-iterator ≡ [] = nil_from_length _ (sym c.loop-case.invariant.left ∙ c.in-None.ensures.steps.0) in
    subst (AllZip Gives c.args.cases.items) (append-nil c.loop-case.outcomes)
    (c.loop-case.invariant.gives [] (subst (λ l. AllZip Gives l []) (sym none) tt))
