use Rattle.traced_completion.proofs.Prelude.{rules, ◌≡◌, ◌+◌, ◌∷◌, length, map, take, drop, Ok, refl, sym, ap, ◌∙◌, subst, arith, take_all, All, polynomials, Explains, Recorded, generator_work, Does, InTurn, units_first, IsReducible}
use Rattle.traced_completion.proofs.Turns.{does_grows, goes_well, ends_with, ends_weaker}
use Rattle.traced_completion.proofs.GeneratorWorks.{turns_left, no_turns_left}
use Rattle.traced_completion.proofs.generators.reduce_generators.Goals as goal

pub reduce_generator-requires-clause-reducible : goal.reduce_generator-requires-clause-reducible
reduce_generator-requires-clause-reducible g c =
    let same : c.loop-turn.rules.order ≡ c.args.rules.now.order = c.loop-turn.invariant.order in
    subst (λ o. All (IsReducible (g.O.WordOrder.letters o)) c.args.generators.now) (sym same) c.requires.reducible

pub returns-in-Err-clause-fault : goal.returns-in-Err-clause-fault
returns-in-Err-clause-fault g c =
    let compare = g.O.WordOrder.compare c.args.rules.now.order in
    let same : c.loop-turn.rules.order ≡ c.args.rules.now.order = c.loop-turn.invariant.order in
    let ps = polynomials c.args.generators.now in
    let turns = units_first c.args.units (length c.args.generators.now) in
    let number = c.number_in_turn-number.result in
    let e = c.in-Err.fault in
    let work = generator_work compare c.args.steps ps in
    let before : Recorded = record { rules = c.loop-turn.rules.rules; made = c.loop-turn.made } in
    let next : drop c.loop-turn.turn turns ≡ number ∷ drop (c.loop-turn.turn + 1) turns = turns_left c.args.units (length c.args.generators.now) c.loop-turn.turn number c.requires.units (search rules) (search rules) in
    let fault : Explains (generator_work (g.O.WordOrder.compare c.loop-turn.rules.order) c.args.steps ps number before.rules) e = c.in-Err.ensures.fault in
    let why : Explains (work number before.rules) e = subst (λ o. Explains (generator_work (g.O.WordOrder.compare o) c.args.steps ps number before.rules) e) same fault in
    let ends = ends_with compare (work number) (map work (drop (c.loop-turn.turn + 1) turns)) before e why in
    ends_weaker (InTurn compare (work number ∷ map work (drop (c.loop-turn.turn + 1) turns)) before) (InTurn compare (map work turns) (record { rules = c.args.rules.now.rules; made = c.args.made.now }))
    (λ r turn. c.loop-turn.invariant.goes_on r (subst (λ ns. InTurn compare (map work ns) before r) (sym next) turn)) e ends

pub loop-turn-preserved : goal.loop-turn-preserved
loop-turn-preserved g c =
    let compare = g.O.WordOrder.compare c.args.rules.now.order in
    let same : c.loop-turn.rules.order ≡ c.args.rules.now.order = c.loop-turn.invariant.order in
    let ps = polynomials c.args.generators.now in
    let turns = units_first c.args.units (length c.args.generators.now) in
    let number = c.number_in_turn-number.result in
    let work = generator_work compare c.args.steps ps in
    let before : Recorded = record { rules = c.loop-turn.rules.rules; made = c.loop-turn.made } in
    let after : Recorded = record { rules = c.reduce_generator.new.rules.rules; made = c.reduce_generator.new.made } in
    let next : drop c.loop-turn.turn turns ≡ number ∷ drop (c.loop-turn.turn + 1) turns = turns_left c.args.units (length c.args.generators.now) c.loop-turn.turn number c.requires.units (search rules) (search rules) in
    let exact : Does (g.O.WordOrder.compare c.loop-turn.rules.order) (generator_work (g.O.WordOrder.compare c.loop-turn.rules.order) c.args.steps ps number before.rules) before after = c.in-Ok.ensures.exact in
    let does : Does compare (work number before.rules) before after = subst (λ o. Does (g.O.WordOrder.compare o) (generator_work (g.O.WordOrder.compare o) c.args.steps ps number before.rules) before after) same exact in
    let grows = does_grows compare (work number before.rules) before after does in
    record {
      order = c.reduce_generator.ensures.order ∙ same;
      records = c.in-Ok.ensures.records;
      most = omega (arith, grows.most, c.loop-turn.invariant.most);
      rules_front = grows.rules_front c.args.rules.now.rules c.loop-turn.invariant.rules_front;
      made_front = grows.made_front c.args.made.now c.loop-turn.invariant.made_front;
      goes_on = λ result turn.
          c.loop-turn.invariant.goes_on result
          (subst (λ ns. InTurn compare (map work ns) before result) (sym next) (goes_well compare (work number) (map work (drop (c.loop-turn.turn + 1) turns)) before after result does turn));
    }

pub returns-clause-exact : goal.returns-clause-exact
returns-clause-exact g c =
    let compare = g.O.WordOrder.compare c.args.rules.now.order in
    let ps = polynomials c.args.generators.now in
    let work = generator_work compare c.args.steps ps in
    let before : Recorded = record { rules = c.loop-turn.rules.rules; made = c.loop-turn.made } in
    let none = no_turns_left c.args.units (length c.args.generators.now) c.loop-turn.turn c.requires.units (search rules) in
    c.loop-turn.invariant.goes_on (Ok before) (subst (λ ns. InTurn compare (map work ns) before (Ok before)) (sym none) (λ _. Ok before))

pub loop-turn-init : goal.loop-turn-init
loop-turn-init g c =
    record {
      order = refl;
      records = c.requires.records;
      most = omega arith;
      rules_front = take_all _ c.args.rules.now.rules (omega arith);
      made_front = take_all _ c.args.made.now (omega arith);
      goes_on = λ result turns. turns;
    }

pub returns-clause-order : goal.returns-clause-order
returns-clause-order g c = c.loop-turn.invariant.order

pub returns-clause-records : goal.returns-clause-records
returns-clause-records g c = c.loop-turn.invariant.records

pub returns-clause-rules_front : goal.returns-clause-rules_front
returns-clause-rules_front g c = c.loop-turn.invariant.rules_front

pub returns-clause-made_front : goal.returns-clause-made_front
returns-clause-made_front g c = c.loop-turn.invariant.made_front

pub returns-in-Err-clause-order : goal.returns-in-Err-clause-order
returns-in-Err-clause-order g c = c.reduce_generator.ensures.order ∙ c.loop-turn.invariant.order

pub returns-in-Err-clause-rules_front : goal.returns-in-Err-clause-rules_front
returns-in-Err-clause-rules_front g c = ap (take (length c.args.rules.now.rules)) c.in-Err.ensures.rules_back ∙ c.loop-turn.invariant.rules_front

pub returns-in-Err-clause-made_front : goal.returns-in-Err-clause-made_front
returns-in-Err-clause-made_front g c = ap (take (length c.args.made.now)) c.in-Err.ensures.made_back ∙ c.loop-turn.invariant.made_front
