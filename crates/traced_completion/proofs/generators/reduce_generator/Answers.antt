use Rattle.traced_completion.proofs.Prelude.{rules, ◌≡◌, ◌<◌, ◌-◌, length, get_or, List, Err, sym, subst, arith, Memory, Row, polynomials, Recorded, IsExtended, generator_rows, plain, IsKept, IsReducible, AreNamed}
use Rattle.traced_completion.proofs.GeneratorWorks.{generator_is, generator_fault, nothing_left, rest_made}
use Rattle.traced_completion.proofs.Records.{generator_named}
use Rattle.traced_completion.proofs.generators.reduce_generator.Goals as goal

pub reduce-requires-clause-over : goal.reduce-requires-clause-over
reduce-requires-clause-over g c =
    let p = c.index-generators-number.result in
    let at : p ≡ get_or c.args.generators.now (c.args.number - 1) p = search rules in
    let reducible : IsReducible (g.O.WordOrder.letters c.args.rules.now.order) p = subst (IsReducible (g.O.WordOrder.letters c.args.rules.now.order)) (sym at) (c.requires.reducible (c.args.number - 1) p (omega (arith, c.requires.first, c.requires.last))) in
    reducible.over

pub reduce-requires-clause-nonempty : goal.reduce-requires-clause-nonempty
reduce-requires-clause-nonempty g c =
    let p = c.index-generators-number.result in
    let at : p ≡ get_or c.args.generators.now (c.args.number - 1) p = search rules in
    let reducible : IsReducible (g.O.WordOrder.letters c.args.rules.now.order) p = subst (IsReducible (g.O.WordOrder.letters c.args.rules.now.order)) (sym at) (c.requires.reducible (c.args.number - 1) p (omega (arith, c.requires.first, c.requires.last))) in
    reducible.nonempty

pub returns-in-Err-clause-fault : goal.returns-in-Err-clause-fault
returns-in-Err-clause-fault g c =
    let given = c.args.rules.now in
    let p = c.index-generators-number.result in
    let at : p ≡ get_or c.args.generators.now (c.args.number - 1) p = search rules in
    let is = generator_is c.args.generators.now c.args.number p c.requires.first at c.requires.last in
    generator_fault (g.O.WordOrder.compare given.order) c.args.steps (polynomials c.args.generators.now) c.args.number given.rules p.terms is c.in-Err.fault c.in-Err.ensures.exact

pub returns-then-terms-eq0-clause-exact : goal.returns-then-terms-eq0-clause-exact
returns-then-terms-eq0-clause-exact g c =
    let given = c.args.rules.now in
    let p = c.index-generators-number.result in
    let at : p ≡ get_or c.args.generators.now (c.args.number - 1) p = search rules in
    let is = generator_is c.args.generators.now c.args.number p c.requires.first at c.requires.last in
    let none : length c.in-Ok.reduced.rest.terms ≡ 0 = search rules in
    nothing_left (g.O.WordOrder.compare given.order) c.args.steps (polynomials c.args.generators.now) c.args.number given.rules p.terms is (plain c.in-Ok.reduced) (record { rules = given.rules; made = c.args.made.now }) c.in-Ok.ensures.exact none

pub push_rule-requires-clause-rows : goal.push_rule-requires-clause-rows
push_rule-requires-clause-rows g c =
    let given = c.args.rules.now in
    let kept : IsKept (g.O.WordOrder.letters given.order) (length given.rules) (plain c.in-Ok.reduced) = c.in-Ok.ensures.kept in
    let same : c.in_ok-rows.rows ≡ generator_rows c.args.number c.in-Ok.reduced.multiplier c.in-Ok.reduced.rows = search rules in
    record {
      in_range = c.in_ok-rows.ensures.in_range;
      named = subst (AreNamed (length given.rules)) (sym same) (generator_named (length given.rules) c.args.number c.in-Ok.reduced.multiplier c.in-Ok.reduced.rows kept.rows.named);
    }

pub returns-clause-exact : goal.returns-clause-exact
returns-clause-exact g c =
    let given = c.args.rules.now in
    let compare = g.O.WordOrder.compare given.order in
    let p = c.index-generators-number.result in
    let at : p ≡ get_or c.args.generators.now (c.args.number - 1) p = search rules in
    let is = generator_is c.args.generators.now c.args.number p c.requires.first at c.requires.last in
    let some : 0 < length c.in-Ok.reduced.rest.terms = search rules in
    let same : c.in_ok-rows.rows ≡ generator_rows c.args.number c.in-Ok.reduced.multiplier c.in-Ok.reduced.rows = search rules in
    let before : Recorded = record { rules = given.rules; made = c.args.made.now } in
    let after : Recorded = record { rules = c.push_rule.new.rules.rules; made = c.push_rule.new.made } in
    let pushed : IsExtended compare (record { polynomial = c.in-Ok.reduced.rest.terms; rows = c.in_ok-rows.rows }) before after = search rules in
    let extended : IsExtended compare (record { polynomial = c.in-Ok.reduced.rest.terms; rows = generator_rows c.args.number c.in-Ok.reduced.multiplier c.in-Ok.reduced.rows }) before after =
    subst (λ (rows : List Row). IsExtended compare (record { polynomial = c.in-Ok.reduced.rest.terms; rows = rows }) before after) same pushed in
    rest_made compare c.args.steps (polynomials c.args.generators.now) c.args.number given.rules p.terms is (plain c.in-Ok.reduced) before after c.in-Ok.ensures.exact some extended

pub subtract_from_generator-requires-clause-taken_in : goal.subtract_from_generator-requires-clause-taken_in
subtract_from_generator-requires-clause-taken_in g c = c.in-Ok.ensures.kept.rows.in_range

pub push_rule-requires-clause-over : goal.push_rule-requires-clause-over
push_rule-requires-clause-over g c = c.in-Ok.ensures.kept.over

pub push_rule-requires-clause-nonempty : goal.push_rule-requires-clause-nonempty
push_rule-requires-clause-nonempty g c = c.in-Ok.ensures.kept.nonempty

pub push_rule-requires-clause-records : goal.push_rule-requires-clause-records
push_rule-requires-clause-records g c = c.requires.records

pub returns-clause-records : goal.returns-clause-records
returns-clause-records g c = c.in_ok-push_rule.ensures.records

pub returns-in_err-rows-clause-exact : goal.returns-in_err-rows-clause-exact
returns-in_err-rows-clause-exact g c =
    let back : c.from_residual.result ≡ Err (Memory c.in_err-rows.field-0.0) = search rules in
    rw back tt

pub returns-in_err-rows-clause-records : goal.returns-in_err-rows-clause-records
returns-in_err-rows-clause-records g c =
    let back : c.from_residual.result ≡ Err (Memory c.in_err-rows.field-0.0) = search rules in
    rw back tt

pub returns-in_err-rows-clause-fault : goal.returns-in_err-rows-clause-fault
returns-in_err-rows-clause-fault g c =
    let back : c.from_residual.result ≡ Err (Memory c.in_err-rows.field-0.0) = search rules in
    rw back tt

pub returns-in_err-push_rule-clause-exact : goal.returns-in_err-push_rule-clause-exact
returns-in_err-push_rule-clause-exact g c =
    let back : c.from_residual-in_err-push_rule.result ≡ Err (Memory c.in_err-push_rule.field-0.0) = search rules in
    rw back tt

pub returns-in_err-push_rule-clause-records : goal.returns-in_err-push_rule-clause-records
returns-in_err-push_rule-clause-records g c =
    let back : c.from_residual-in_err-push_rule.result ≡ Err (Memory c.in_err-push_rule.field-0.0) = search rules in
    rw back tt

pub returns-in_err-push_rule-clause-fault : goal.returns-in_err-push_rule-clause-fault
returns-in_err-push_rule-clause-fault g c =
    let back : c.from_residual-in_err-push_rule.result ≡ Err (Memory c.in_err-push_rule.field-0.0) = search rules in
    rw back tt

pub returns-in_err-push_rule-clause-rules_back : goal.returns-in_err-push_rule-clause-rules_back
returns-in_err-push_rule-clause-rules_back g c =
    let back : c.from_residual-in_err-push_rule.result ≡ Err (Memory c.in_err-push_rule.field-0.0) = search rules in
    rw back c.in_err-push_rule.ensures.rules_back

pub returns-in_err-push_rule-clause-made_back : goal.returns-in_err-push_rule-clause-made_back
returns-in_err-push_rule-clause-made_back g c =
    let back : c.from_residual-in_err-push_rule.result ≡ Err (Memory c.in_err-push_rule.field-0.0) = search rules in
    rw back c.in_err-push_rule.ensures.made_back
