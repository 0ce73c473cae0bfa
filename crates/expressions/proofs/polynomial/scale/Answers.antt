use Rattle.expressions.proofs.Prelude.{◌≡◌, rules, ap, ◌∙◌, multiple_result}
use Rattle.expressions.proofs.Multiples.{least, least-multiple}
use Rattle.expressions.proofs.polynomial.scale.Goals as goal

pub returns : goal.returns
returns c =
    let p = c.args.poly.terms in
    let by_is : c.args.by ≡ least = search rules in
    ap (λ k. multiple_result k p) by_is ∙ least-multiple p c.term.result.0 c.term.result.1.now c.args.poly.canonical.shaped.nonzero c.term.ensures ∙ search rules
