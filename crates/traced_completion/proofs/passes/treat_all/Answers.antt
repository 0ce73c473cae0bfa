use Rattle.traced_completion.proofs.Prelude.{rules, ◌≡◌, ◌≤◌, ◌∷◌, length, take, map, Err, IfErr, refl, sym, subst, arith, ap, ◌∙◌, All, into_iter_items, length-take, take_all, All-head, All-tail, Explains, Recorded, second_work, Does, InTurn, EndsWith, plain_first, IsKeptFirst}
use Rattle.traced_completion.specs.declared.first_reductions.First.{First}
use Rattle.traced_completion.proofs.Records.{first_more}
use Rattle.traced_completion.proofs.Turns.{does_grows, goes_well, ends_with, ends_weaker}
use Rattle.traced_completion.proofs.passes.treat_all.Goals as goal

pub treat-requires-clause-kept : goal.treat-requires-clause-kept
treat-requires-clause-kept g c =
    let at = c.loop-first in
    let given = c.args.rules.now in
    let letters = g.O.WordOrder.letters given.order in
    let Kept : First → Type 0 = λ f. IsKeptFirst letters (length given.rules) (plain_first f) in
    let first = c.in-Some.first in
    let rest = into_iter_items c.next.new.self in
    let next : into_iter_items at.first-iterator ≡ first ∷ rest = c.in-Some.ensures.steps.0 in
    let kept : Kept first = All-head Kept first rest (subst (All Kept) next at.invariant.kept) in
    let front : length given.rules ≤ length at.rules.rules = omega (arith, ap length at.invariant.rules_front, length-take (length given.rules) at.rules.rules) in
    subst (λ o. IsKeptFirst (g.O.WordOrder.letters o) (length at.rules.rules) (plain_first first)) (sym at.invariant.order)
    (first_more letters (length given.rules) (length at.rules.rules) front (plain_first first) kept)

pub loop-first-init : goal.loop-first-init
loop-first-init g c =
    let compare = g.O.WordOrder.compare c.args.rules.now.order in
    let letters = g.O.WordOrder.letters c.args.rules.now.order in
    let firsts : into_iter_items c.into_iter-first-iterator.result ≡ c.args.firsts = c.into_iter-first-iterator.ensures.into_iter_gives.0 ∙ search rules in
    let before : Recorded = record { rules = c.args.rules.now.rules; made = c.args.made.now } in
    record {
      left = search rules;
      order = refl;
      kept = subst (All (λ f. IsKeptFirst letters (length c.args.rules.now.rules) (plain_first f))) (sym firsts) c.requires.kept;
      records = c.requires.records;
      most = omega (arith, ap length firsts);
      rules_front = take_all _ c.args.rules.now.rules (omega arith);
      made_front = take_all _ c.args.made.now (omega arith);
      goes_on = λ result. subst (λ fs. InTurn compare (map (second_work compare c.args.steps) (map plain_first fs)) before result) firsts;
    }

pub loop-first-preserved : goal.loop-first-preserved
loop-first-preserved g c =
    let compare = g.O.WordOrder.compare c.args.rules.now.order in
    let letters = g.O.WordOrder.letters c.args.rules.now.order in
    let Kept : First → Type 0 = λ f. IsKeptFirst letters (length c.args.rules.now.rules) (plain_first f) in
    let first = c.in-Some.first in
    let rest = into_iter_items c.next.new.self in
    let next : into_iter_items c.loop-first.first-iterator ≡ first ∷ rest = c.in-Some.ensures.steps.0 in
    let works = map (second_work compare c.args.steps) (map plain_first rest) in
    let before : Recorded = record { rules = c.loop-first.rules.rules; made = c.loop-first.made } in
    let after : Recorded = record { rules = c.treat.new.rules.rules; made = c.treat.new.made } in
    let same : c.loop-first.rules.order ≡ c.args.rules.now.order = c.loop-first.invariant.order in
    let exact : Does (g.O.WordOrder.compare c.loop-first.rules.order) (second_work (g.O.WordOrder.compare c.loop-first.rules.order) c.args.steps (plain_first first) before.rules) before after = search rules in
    let does : Does compare (second_work compare c.args.steps (plain_first first) before.rules) before after = subst (λ o. Does (g.O.WordOrder.compare o) (second_work (g.O.WordOrder.compare o) c.args.steps (plain_first first) before.rules) before after) same exact in
    let grows = does_grows compare (second_work compare c.args.steps (plain_first first) before.rules) before after does in
    record {
      left = let was = c.loop-first.invariant.left in let gone = c.in-Some.ensures.steps.1 in let short = ap length next in omega arith;
      order = search rules;
      kept = All-tail Kept first rest (subst (All Kept) next c.loop-first.invariant.kept);
      records = search rules;
      most = omega (arith, ap length next, grows.most, c.loop-first.invariant.most);
      rules_front = grows.rules_front c.args.rules.now.rules c.loop-first.invariant.rules_front;
      made_front = grows.made_front c.args.made.now c.loop-first.invariant.made_front;
      goes_on = λ result turns.
          c.loop-first.invariant.goes_on result
          (subst (λ fs. InTurn compare (map (second_work compare c.args.steps) (map plain_first fs)) before result) (sym next)
          (goes_well compare (second_work compare c.args.steps (plain_first first)) works before after result does turns));
    }

-- the fault of the work ends all works
pub returns-in_err-treat-clause-fault : goal.returns-in_err-treat-clause-fault
returns-in_err-treat-clause-fault g c =
    let compare = g.O.WordOrder.compare c.args.rules.now.order in
    let first = c.in-Some.first in
    let rest = into_iter_items c.next.new.self in
    let next : into_iter_items c.loop-first.first-iterator ≡ first ∷ rest = c.in-Some.ensures.steps.0 in
    let work = second_work compare c.args.steps (plain_first first) in
    let works = map (second_work compare c.args.steps) (map plain_first rest) in
    let before : Recorded = record { rules = c.loop-first.rules.rules; made = c.loop-first.made } in
    let e = c.in_err-treat.field-0.0 in
    let same : c.loop-first.rules.order ≡ c.args.rules.now.order = c.loop-first.invariant.order in
    let told : Explains (second_work (g.O.WordOrder.compare c.loop-first.rules.order) c.args.steps (plain_first first) before.rules) e = search rules in
    let why : Explains (work before.rules) e = subst (λ o. Explains (second_work (g.O.WordOrder.compare o) c.args.steps (plain_first first) before.rules) e) same told in
    let All-end = InTurn compare (map (second_work compare c.args.steps) (map plain_first c.args.firsts)) (record { rules = c.args.rules.now.rules; made = c.args.made.now }) in
    let ends = ends_weaker (InTurn compare (work ∷ works) before) All-end
    (λ r turns. c.loop-first.invariant.goes_on r (subst (λ fs. InTurn compare (map (second_work compare c.args.steps) (map plain_first fs)) before r) (sym next) turns))
    e (ends_with compare work works before e why) in
    let back : c.from_residual.result ≡ Err e = search rules in
    subst (λ r. IfErr r (EndsWith All-end)) (sym back) ends

pub returns-clause-order : goal.returns-clause-order
returns-clause-order g c = c.loop-first.invariant.order

pub returns-clause-records : goal.returns-clause-records
returns-clause-records g c = search rules

pub returns-clause-rules_front : goal.returns-clause-rules_front
returns-clause-rules_front g c = c.loop-first.invariant.rules_front

pub returns-clause-made_front : goal.returns-clause-made_front
returns-clause-made_front g c = c.loop-first.invariant.made_front

pub returns-in_err-treat-clause-order : goal.returns-in_err-treat-clause-order
returns-in_err-treat-clause-order g c = c.treat.ensures.order ∙ c.loop-first.invariant.order

pub returns-in_err-treat-clause-records : goal.returns-in_err-treat-clause-records
returns-in_err-treat-clause-records g c =
    let back : c.from_residual.result ≡ Err c.in_err-treat.field-0.0 = search rules in
    rw back tt

pub returns-in_err-treat-clause-exact : goal.returns-in_err-treat-clause-exact
returns-in_err-treat-clause-exact g c =
    let back : c.from_residual.result ≡ Err c.in_err-treat.field-0.0 = search rules in
    rw back tt

pub returns-in_err-treat-clause-rules_front : goal.returns-in_err-treat-clause-rules_front
returns-in_err-treat-clause-rules_front g c =
    let same : c.treat.new.rules.rules ≡ c.loop-first.rules.rules = search rules in
    ap (take (length c.args.rules.now.rules)) same ∙ c.loop-first.invariant.rules_front

pub returns-in_err-treat-clause-made_front : goal.returns-in_err-treat-clause-made_front
returns-in_err-treat-clause-made_front g c =
    let same : c.treat.new.made ≡ c.loop-first.made = search rules in
    ap (take (length c.args.made.now)) same ∙ c.loop-first.invariant.made_front
