use Rattle.rule_making.proofs.Prelude.{rules, ◌≡◌, ◌<◌, ◌<ℤ◌, ◌++◌, pos, [], ◌∷◌, length, Err, if◌then◌else◌, option_to_list, ap, ◌∙◌, poly_multiple, IsOver, IsContent, rule_from, leads_negative, negated_rows, IsRecord}
use Rattle.rule_making.proofs.Quotients.{signed, quotient_words, quotient_primitive, leading_positive}
use Rattle.rule_making.proofs.Extended.{extended, pushed_rule}
use Rattle.rule_making.proofs.Records.{records_push}
use Rattle.rule_making.proofs.making.push_rule.Goals as goal

pub push-requires-2-clause-primitive : goal.push-requires-2-clause-primitive
push-requires-2-clause-primitive g c =
    let p = c.args.rest.now.terms in
    let m = c.in_ok-poly.record in
    let content : IsContent p m.scale = c.in_ok-poly.ensures.content in
    let positive : pos 0 <ℤ m.scale = c.in_ok-poly.ensures.positive in
    let divided : poly_multiple (signed (leads_negative (g.O.WordOrder.compare c.args.rules.now.order) p) m.scale) c.in_ok-poly.poly.terms ≡ p = c.in_ok-poly.ensures.divided in
    quotient_primitive (leads_negative (g.O.WordOrder.compare c.args.rules.now.order) p) m.scale c.in_ok-poly.poly.terms p positive content divided

pub push-requires-2-clause-positive : goal.push-requires-2-clause-positive
push-requires-2-clause-positive g c =
    let p = c.args.rest.now.terms in
    let m = c.in_ok-poly.record in
    let positive : pos 0 <ℤ m.scale = c.in_ok-poly.ensures.positive in
    let divided : poly_multiple (signed (leads_negative (g.O.WordOrder.compare c.args.rules.now.order) p) m.scale) c.in_ok-poly.poly.terms ≡ p = c.in_ok-poly.ensures.divided in
    leading_positive (g.O.WordOrder.compare c.args.rules.now.order) m.scale c.in_ok-poly.poly.terms p positive divided c.requires.nonzero c.args.rest.now.canonical.shaped.nonzero

pub push-requires-2-clause-nonempty : goal.push-requires-2-clause-nonempty
push-requires-2-clause-nonempty g c =
    let p = c.args.rest.now.terms in
    let by = signed (leads_negative (g.O.WordOrder.compare c.args.rules.now.order) p) c.in_ok-poly.record.scale in
    let divided : poly_multiple by c.in_ok-poly.poly.terms ≡ p = c.in_ok-poly.ensures.divided in
    quotient_words (λ w. 0 < length w) by c.in_ok-poly.poly.terms p divided c.requires.nonempty

pub push-requires-2-clause-over : goal.push-requires-2-clause-over
push-requires-2-clause-over g c =
    let p = c.args.rest.now.terms in
    let by = signed (leads_negative (g.O.WordOrder.compare c.args.rules.now.order) p) c.in_ok-poly.record.scale in
    let divided : poly_multiple by c.in_ok-poly.poly.terms ≡ p = c.in_ok-poly.ensures.divided in
    quotient_words (IsOver (g.O.WordOrder.letters c.args.rules.now.order)) by c.in_ok-poly.poly.terms p divided c.requires.over

pub returns-in-Ok-clause-exact : goal.returns-in-Ok-clause-exact
returns-in-Ok-clause-exact g c =
    let p = c.args.rest.now.terms in
    let compare = g.O.WordOrder.compare c.args.rules.now.order in
    let m = c.in_ok-poly.record in
    let poly = c.in_ok-poly.poly in
    let content : IsContent p m.scale = c.in_ok-poly.ensures.content in
    let positive : pos 0 <ℤ m.scale = c.in_ok-poly.ensures.positive in
    let divided : poly_multiple (signed (leads_negative compare p) m.scale) poly.terms ≡ p = c.in_ok-poly.ensures.divided in
    let rows : m.rows ≡ (if leads_negative compare p then negated_rows c.args.rows else c.args.rows) = c.in_ok-poly.ensures.rows in
    let leads = leading_positive compare m.scale poly.terms p positive divided c.requires.nonzero c.args.rest.now.canonical.shaped.nonzero in
    let rules_are : c.push-2.new.self.rules ≡ c.args.rules.now.rules ++ option_to_list (rule_from compare poly) = search rules in
    let made_are : c.push.new.self ≡ c.args.made.now ++ m ∷ [] = search rules in
    extended compare (record { polynomial = p; rows = c.args.rows }) poly m content positive divided rows c.args.rules.now.rules c.push-2.new.self.rules c.args.made.now c.push.new.self leads rules_are made_are

pub returns-in-Ok-clause-records : goal.returns-in-Ok-clause-records
returns-in-Ok-clause-records g c =
    let p = c.args.rest.now.terms in
    let compare = g.O.WordOrder.compare c.args.rules.now.order in
    let m = c.in_ok-poly.record in
    let poly = c.in_ok-poly.poly in
    let positive : pos 0 <ℤ m.scale = c.in_ok-poly.ensures.positive in
    let divided : poly_multiple (signed (leads_negative compare p) m.scale) poly.terms ≡ p = c.in_ok-poly.ensures.divided in
    let leads = leading_positive compare m.scale poly.terms p positive divided c.requires.nonzero c.args.rest.now.canonical.shaped.nonzero in
    let rules_are : c.push-2.new.self.rules ≡ c.args.rules.now.rules ++ option_to_list (rule_from compare poly) = search rules in
    let made_are : c.push.new.self ≡ c.args.made.now ++ m ∷ [] = search rules in
    let is : IsRecord (length c.args.rules.now.rules) m = c.in_ok-poly.ensures.record (length c.args.rules.now.rules) c.requires.rows in
    let one = pushed_rule compare poly leads in
    records_push c.args.rules.now.rules c.push-2.new.self.rules one.rule c.args.made.now c.push.new.self m c.requires.records is
    (rules_are ∙ ap (λ o. c.args.rules.now.rules ++ option_to_list o) one.is) made_are

pub divide_rest-requires-clause-in_range : goal.divide_rest-requires-clause-in_range
divide_rest-requires-clause-in_range g c = c.requires.rows.in_range

pub divide_rest-requires-clause-over : goal.divide_rest-requires-clause-over
divide_rest-requires-clause-over g c = c.requires.over

pub divide_rest-requires-clause-nonzero : goal.divide_rest-requires-clause-nonzero
divide_rest-requires-clause-nonzero g c = c.requires.nonzero

pub push-requires-2-clause-few : goal.push-requires-2-clause-few
push-requires-2-clause-few g c = c.requires.few

pub returns-in-Ok-clause-order : goal.returns-in-Ok-clause-order
returns-in-Ok-clause-order g c = c.in-Ok.ensures.order

pub returns-in_err-poly-clause-exact : goal.returns-in_err-poly-clause-exact
returns-in_err-poly-clause-exact g c =
    let back : c.from_residual.result ≡ Err c.in_err-poly.field-0.0 = search rules in
    rw back tt

pub returns-in_err-poly-clause-records : goal.returns-in_err-poly-clause-records
returns-in_err-poly-clause-records g c =
    let back : c.from_residual.result ≡ Err c.in_err-poly.field-0.0 = search rules in
    rw back tt
