use Rattle.equation_chain.proofs.Prelude.{rules, ◌≡◌, pos, neg_ℤ, Err, ap, ◌∙◌, to_z, of_z, combined, moved_result}
use mir.Syntax.{w128}
use Rattle.equation_chain.proofs.Going.{explains_then, step_from}
use Rattle.equation_chain.proofs.line.less_step.Goals as goal

pub returns-in_err-moved : goal.returns-in_err-moved
returns-in_err-moved c =
    let step = c.args.step.now in
    let line = c.args.line.now.terms in
    let e = c.in_err-moved.field-0.0 in
    let given : c.from_residual.result ≡ Err e = search rules in
    rw given (explains_then (moved_result step.left c.args.generator.now.terms step.right) (λ moved. combined (pos 1) line (neg_ℤ step.coef) moved) e c.in_err-moved.ensures.exact)

pub returns : goal.returns
returns c =
    let k = c.args.step.now.coef in
    let is : to_z w128 (of_z w128 k) ≡ k = search rules in
    let back : to_z w128 (of_z w128 c.negate.result) ≡ c.negate.result = search rules in
    step_from c.args.line.now.terms c.args.generator.now.terms c.in_ok-moved.moved.terms c.args.step.now (to_z w128 (of_z w128 c.negate.result)) c.combine.result
    c.in_ok-moved.ensures.exact (back ∙ c.negate.ensures.exact ∙ ap neg_ℤ is) c.combine.ensures.exact
