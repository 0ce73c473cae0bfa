use Rattle.rule_reduce.proofs.Prelude.{rules, ◌≡◌, ◌<◌, ◌<ℤ◌, pos, length, slice_get, Some, leading_term}
use Rattle.rule_reduce.proofs.MadeRules.{has_terms, rule_is}
use Rattle.rule_reduce.proofs.Numbers.{all_at}
use Rattle.rule_reduce.proofs.making.make_rule.Goals as goal

pub lead_place-place-requires-clause-nonzero : goal.lead_place-place-requires-clause-nonzero
lead_place-place-requires-clause-nonzero g c =
    has_terms (g.O.WordOrder.compare c.args.order.now) c.args.poly.terms (λ t. pos 0 <ℤ t.0) c.requires.positive

pub returns-clause-rule : goal.returns-clause-rule
returns-clause-rule g c =
    let compare = g.O.WordOrder.compare c.args.order.now in
    let poly = c.args.poly in
    let n = c.lead_place-place.result in
    let leading = c.term-leading.result.0 in
    let lead = c.in_ok-lead.lead in
    let best : leading_term compare poly.terms ≡ slice_get poly.terms n = search rules in
    let here : slice_get poly.terms n ≡ Some (leading, lead) = search rules in
    let whole = rule_is (g.O.WordOrder.letters c.args.order.now) compare poly n leading lead best here c.requires.positive c.requires.nonempty c.requires.over in
    search (rules, whole)

pub returns-clause-lead : goal.returns-clause-lead
returns-clause-lead g c =
    let poly = c.args.poly in
    let n = c.lead_place-place.result in
    let leading = c.term-leading.result.0 in
    let lead = c.in_ok-lead.lead in
    let here : slice_get poly.terms n ≡ Some (leading, lead) = search rules in
    all_at (λ t. 0 < length t.1) poly.terms n (leading, lead) here c.requires.nonempty
