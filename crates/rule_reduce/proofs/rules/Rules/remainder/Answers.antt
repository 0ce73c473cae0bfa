use Rattle.rule_reduce.proofs.Prelude.{rules, coefficients, normal_form_of}
use Rattle.rule_reduce.proofs.ShownStates.{shown_without}
use Rattle.rule_reduce.proofs.rules.Rules.remainder.Goals as goal

pub returns-clause-exact : goal.returns-clause-exact
returns-clause-exact g c =
    let whole = shown_without coefficients (normal_form_of (g.O.WordOrder.compare c.args.self.now.order) c.args.self.now.rules c.args.poly.now.terms c.args.steps) c.in_ok-end.end c.in_ok-end.ensures.exact in
    search (rules, whole)
