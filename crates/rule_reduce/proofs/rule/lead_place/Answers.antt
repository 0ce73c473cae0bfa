use Rattle.rule_reduce.proofs.Prelude.{rules, ◌≡◌, true, recursion_from_IsDescending}
use Rattle.rule_reduce.proofs.FirstChoices.{plain_order}
use Rattle.rule_reduce.proofs.LeadingPlaces.{first_leads}
use Rattle.rule_reduce.proofs.rule.lead_place.Goals as goal

pub returns-then-is_canonical-clause-leading : goal.returns-then-is_canonical-clause-leading
returns-then-is_canonical-clause-leading g c =
    let order = c.args.order.now in
    let compare = g.O.WordOrder.compare order in
    let yes : g.O.WordOrder.is_plain order ≡ true = search rules in
    let plain = plain_order compare (g.O.WordOrder.measure_of order) (λ u v. g.met.O.WordOrder.by_measure order u v) (λ w. g.met.O.WordOrder.unmeasured order w yes) in
    first_leads compare plain c.args.poly.now.terms (recursion_from_IsDescending c.args.poly.now.terms c.args.poly.now.canonical.shaped.descending) c.requires.nonzero
