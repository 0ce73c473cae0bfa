use Rattle.adjoint_rules.proofs.Prelude.{rules}
use Rattle.adjoint_rules.proofs.NewAdjoints.{new_adjoint-plus, new_adjoint-minus, new_adjoint-one}
use Rattle.adjoint_rules.proofs.adjoint.new_adjoint.Goals as goal

pub returns-then-same : goal.returns-then-same
returns-then-same c q is =
    new_adjoint-plus q c.args.poly.now.terms c.in_ok-adjoint.adjoint.terms (c.in_ok-adjoint.ensures q is) (c.same.ensures.coefficients.0 c.if-same.true)

pub returns-then-same-2 : goal.returns-then-same-2
returns-then-same-2 c q is =
    let r = c.in_ok-adjoint.adjoint.terms in
    let n = c.in_ok-negative.negative.terms in
    new_adjoint-minus q c.args.poly.now.terms r (c.in_ok-adjoint.ensures q is) n c.in_ok-negative.ensures (c.same-2.ensures.coefficients.0 c.if-same-2.true)

pub returns : goal.returns
returns c q is =
    let r = c.in_ok-adjoint.adjoint.terms in
    let n = c.in_ok-negative.negative.terms in
    new_adjoint-one q c.args.poly.now.terms r (c.in_ok-adjoint.ensures q is) n c.in_ok-negative.ensures (λ plus. search rules) (λ minus. search rules)
