use Rattle.rule_making.proofs.Prelude.{rules, ◌≡◌, ◌<ℤ◌, pos, neg_ℤ, true, false, to_z, of_z, Err, refl, sym, ◌∙◌, subst, if◌then◌else◌, w128, unsigned_abs, IsContent, DividesEach, All, IsCoefficient, Row, poly_multiple, leads_negative, negated_rows}
use Rattle.rule_making.proofs.Records.{AreNamed, negated_named}
use Rattle.rule_making.proofs.Quotients.{signed_nonzero, content_positive, negative_divides}
use Rattle.rule_making.proofs.making.divide_rest.Goals as goal

pub divide-requires-clause-divides : goal.divide-requires-clause-divides
divide-requires-clause-divides g c =
    let content : IsContent c.args.rest.now.terms c.content-scale.result = c.content-scale.ensures.exact in
    let divides : DividesEach (unsigned_abs (neg_ℤ c.content-scale.result)) c.args.rest.now.terms = negative_divides c.content-scale.result c.args.rest.now.terms content.divides in
    let same : to_z w128 (of_z w128 c.negate.result) ≡ neg_ℤ c.content-scale.result = search rules in
    subst (λ z. DividesEach (unsigned_abs z) c.args.rest.now.terms) (sym same) divides

pub divide-requires-2-clause-divides : goal.divide-requires-2-clause-divides
divide-requires-2-clause-divides g c =
    let content : IsContent c.args.rest.now.terms c.content-scale.result = c.content-scale.ensures.exact in
    let same : to_z w128 (of_z w128 c.content-scale.result) ≡ c.content-scale.result = search rules in
    subst (λ z. DividesEach (unsigned_abs z) c.args.rest.now.terms) (sym same) content.divides

pub returns-then-is_led_by_negative-clause-record : goal.returns-then-is_led_by_negative-clause-record
returns-then-is_led_by_negative-clause-record g c =
    let scale = c.content-scale.result in
    let same : to_z w128 (of_z w128 scale) ≡ scale = search rules in
    let positive : pos 0 <ℤ scale = content_positive scale c.args.rest.now.terms c.content-scale.ensures.exact c.content-scale.ensures.zero.0 c.requires.nonzero in
    let scale_in : IsCoefficient scale = c.content-scale.ensures.in_range in
    let negated : c.negate_rows-rows.result ≡ negated_rows c.args.rows = c.negate_rows-rows.ensures.exact in
    let in_range : All (λ (r : Row). IsCoefficient r.coef) c.negate_rows-rows.result = c.negate_rows-rows.ensures.in_range in
    λ count are. record {
      positive = subst (λ z. pos 0 <ℤ z) (sym same) positive;
      scale_in = subst IsCoefficient (sym same) scale_in;
      coefficients_in = in_range;
      earlier = subst (AreNamed count) (sym negated) (negated_named count c.args.rows are.named);
    }

pub returns-clause-record : goal.returns-clause-record
returns-clause-record g c =
    let scale = c.content-scale.result in
    let same : to_z w128 (of_z w128 scale) ≡ scale = search rules in
    let positive : pos 0 <ℤ scale = content_positive scale c.args.rest.now.terms c.content-scale.ensures.exact c.content-scale.ensures.zero.0 c.requires.nonzero in
    let scale_in : IsCoefficient scale = c.content-scale.ensures.in_range in
    λ count are. record {
      positive = subst (λ z. pos 0 <ℤ z) (sym same) positive;
      scale_in = subst IsCoefficient (sym same) scale_in;
      coefficients_in = c.requires.in_range;
      earlier = are.named;
    }

pub returns-in_err-poly-clause-content : goal.returns-in_err-poly-clause-content
returns-in_err-poly-clause-content g c =
    let back : c.from_residual.result ≡ Err c.in_err-poly.field-0.0 = search rules in
    rw back tt

pub returns-in_err-poly-clause-record : goal.returns-in_err-poly-clause-record
returns-in_err-poly-clause-record g c =
    let back : c.from_residual.result ≡ Err c.in_err-poly.field-0.0 = search rules in
    rw back tt

pub returns-in_err-poly-clause-positive : goal.returns-in_err-poly-clause-positive
returns-in_err-poly-clause-positive g c =
    let back : c.from_residual.result ≡ Err c.in_err-poly.field-0.0 = search rules in
    rw back tt

pub returns-in_err-poly-clause-divided : goal.returns-in_err-poly-clause-divided
returns-in_err-poly-clause-divided g c =
    let back : c.from_residual.result ≡ Err c.in_err-poly.field-0.0 = search rules in
    rw back tt

pub returns-in_err-poly-clause-rows : goal.returns-in_err-poly-clause-rows
returns-in_err-poly-clause-rows g c =
    let back : c.from_residual.result ≡ Err c.in_err-poly.field-0.0 = search rules in
    rw back tt

pub returns-in_err-poly-2-clause-content : goal.returns-in_err-poly-2-clause-content
returns-in_err-poly-2-clause-content g c =
    let back : c.from_residual-in_err-poly-2.result ≡ Err c.in_err-poly-2.field-0.0 = search rules in
    rw back tt

pub returns-in_err-poly-2-clause-record : goal.returns-in_err-poly-2-clause-record
returns-in_err-poly-2-clause-record g c =
    let back : c.from_residual-in_err-poly-2.result ≡ Err c.in_err-poly-2.field-0.0 = search rules in
    rw back tt

pub returns-in_err-poly-2-clause-positive : goal.returns-in_err-poly-2-clause-positive
returns-in_err-poly-2-clause-positive g c =
    let back : c.from_residual-in_err-poly-2.result ≡ Err c.in_err-poly-2.field-0.0 = search rules in
    rw back tt

pub returns-in_err-poly-2-clause-divided : goal.returns-in_err-poly-2-clause-divided
returns-in_err-poly-2-clause-divided g c =
    let back : c.from_residual-in_err-poly-2.result ≡ Err c.in_err-poly-2.field-0.0 = search rules in
    rw back tt

pub returns-in_err-poly-2-clause-rows : goal.returns-in_err-poly-2-clause-rows
returns-in_err-poly-2-clause-rows g c =
    let back : c.from_residual-in_err-poly-2.result ≡ Err c.in_err-poly-2.field-0.0 = search rules in
    rw back tt

pub is_led_by_negative-requires-clause-over : goal.is_led_by_negative-requires-clause-over
is_led_by_negative-requires-clause-over g c = c.requires.over

pub is_led_by_negative-requires-clause-nonzero : goal.is_led_by_negative-requires-clause-nonzero
is_led_by_negative-requires-clause-nonzero g c = c.requires.nonzero

pub negate_rows-rows-requires : goal.negate_rows-rows-requires
negate_rows-rows-requires g c = c.requires.in_range

pub divide-requires-2-clause-nonzero : goal.divide-requires-2-clause-nonzero
divide-requires-2-clause-nonzero g c =
    let scale = c.content-scale.result in
    let p = c.args.rest.now.terms in
    let same : to_z w128 (of_z w128 scale) ≡ scale = search rules in
    let positive = content_positive scale p c.content-scale.ensures.exact c.content-scale.ensures.zero.0 c.requires.nonzero in
    λ is. signed_nonzero false scale positive (sym same ∙ is)

pub divide-requires-clause-nonzero : goal.divide-requires-clause-nonzero
divide-requires-clause-nonzero g c =
    let scale = c.content-scale.result in
    let p = c.args.rest.now.terms in
    let same : to_z w128 (of_z w128 c.negate.result) ≡ neg_ℤ scale = search rules in
    let positive = content_positive scale p c.content-scale.ensures.exact c.content-scale.ensures.zero.0 c.requires.nonzero in
    λ is. signed_nonzero true scale positive (sym same ∙ is)

pub returns-clause-content : goal.returns-clause-content
returns-clause-content g c =
    let scale = c.content-scale.result in
    let p = c.args.rest.now.terms in
    let same : to_z w128 (of_z w128 scale) ≡ scale = search rules in
    subst (IsContent p) (sym same) c.content-scale.ensures.exact

pub returns-clause-positive : goal.returns-clause-positive
returns-clause-positive g c =
    let scale = c.content-scale.result in
    let p = c.args.rest.now.terms in
    let same : to_z w128 (of_z w128 scale) ≡ scale = search rules in
    let positive = content_positive scale p c.content-scale.ensures.exact c.content-scale.ensures.zero.0 c.requires.nonzero in
    subst (λ z. pos 0 <ℤ z) (sym same) positive

pub returns-then-is_led_by_negative-clause-content : goal.returns-then-is_led_by_negative-clause-content
returns-then-is_led_by_negative-clause-content g c =
    let scale = c.content-scale.result in
    let p = c.args.rest.now.terms in
    let same : to_z w128 (of_z w128 scale) ≡ scale = search rules in
    subst (IsContent p) (sym same) c.content-scale.ensures.exact

pub returns-then-is_led_by_negative-clause-positive : goal.returns-then-is_led_by_negative-clause-positive
returns-then-is_led_by_negative-clause-positive g c =
    let scale = c.content-scale.result in
    let p = c.args.rest.now.terms in
    let same : to_z w128 (of_z w128 scale) ≡ scale = search rules in
    let positive = content_positive scale p c.content-scale.ensures.exact c.content-scale.ensures.zero.0 c.requires.nonzero in
    subst (λ z. pos 0 <ℤ z) (sym same) positive

pub returns-clause-divided : goal.returns-clause-divided
returns-clause-divided g c =
    let p = c.args.rest.now.terms in
    let leads : leads_negative (g.O.WordOrder.compare c.args.order.now) p ≡ false = search rules in
    let scale = to_z w128 (of_z w128 c.content-scale.result) in
    subst (λ b. poly_multiple (if b then neg_ℤ scale else scale) c.in_ok-poly-2.poly.terms ≡ p) (sym leads) c.in_ok-poly-2.ensures

pub returns-clause-rows : goal.returns-clause-rows
returns-clause-rows g c =
    let p = c.args.rest.now.terms in
    let leads : leads_negative (g.O.WordOrder.compare c.args.order.now) p ≡ false = search rules in
    subst (λ b. c.args.rows ≡ (if b then negated_rows c.args.rows else c.args.rows)) (sym leads) refl

pub returns-then-is_led_by_negative-clause-divided : goal.returns-then-is_led_by_negative-clause-divided
returns-then-is_led_by_negative-clause-divided g c =
    let p = c.args.rest.now.terms in
    let leads : leads_negative (g.O.WordOrder.compare c.args.order.now) p ≡ true = search rules in
    let scale = to_z w128 (of_z w128 c.content-scale.result) in
    let same : to_z w128 (of_z w128 c.negate.result) ≡ neg_ℤ scale = search rules in
    subst (λ b. poly_multiple (if b then neg_ℤ scale else scale) c.in_ok-poly.poly.terms ≡ p) (sym leads) (subst (λ z. poly_multiple z c.in_ok-poly.poly.terms ≡ p) same c.in_ok-poly.ensures)

pub returns-then-is_led_by_negative-clause-rows : goal.returns-then-is_led_by_negative-clause-rows
returns-then-is_led_by_negative-clause-rows g c =
    let p = c.args.rest.now.terms in
    let leads : leads_negative (g.O.WordOrder.compare c.args.order.now) p ≡ true = search rules in
    subst (λ b. c.negate_rows-rows.result ≡ (if b then negated_rows c.args.rows else c.args.rows)) (sym leads) c.negate_rows-rows.ensures.exact
