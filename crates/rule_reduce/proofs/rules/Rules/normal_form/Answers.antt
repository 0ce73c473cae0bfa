use Rattle.rule_reduce.proofs.Prelude.{rules, normal_form_of}
use Rattle.rule_reduce.proofs.ShownStates.{shown_whole, all-coefficients}
use Rattle.rule_reduce.proofs.rules.Rules.normal_form.Goals as goal

pub returns-clause-rows_in : goal.returns-clause-rows_in
returns-clause-rows_in g c = all-coefficients c.in_ok-end.end.rows c.in_ok-end.ensures.in_range.rows

pub returns-clause-exact : goal.returns-clause-exact
returns-clause-exact g c =
    let whole = shown_whole (normal_form_of (g.O.WordOrder.compare c.args.self.now.order) c.args.self.now.rules c.args.poly.now.terms c.args.steps) c.in_ok-end.end c.in_ok-end.ensures.exact in
    search (rules, whole)
