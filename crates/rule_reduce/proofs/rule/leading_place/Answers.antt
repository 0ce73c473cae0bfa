use Rattle.rule_reduce.proofs.Prelude.{◌≡◌, length, arith, subst}
use Rattle.rule_reduce.proofs.LeadingPlaces.{IsBest, leading_at}
use Rattle.rule_reduce.proofs.rule.leading_place.Goals as goal

pub returns-clause-leading : goal.returns-clause-leading
returns-clause-leading g c =
    let compare = g.O.WordOrder.compare c.args.order.now in
    let terms = c.args.terms.now in
    let ends : c.loop-place.place ≡ length terms = omega arith in
    leading_at compare terms c.loop-place.best c.loop-place.invariant.best_in (subst (IsBest compare terms c.loop-place.best) ends c.loop-place.invariant.best)
