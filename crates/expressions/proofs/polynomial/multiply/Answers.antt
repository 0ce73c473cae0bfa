use Rattle.expressions.proofs.Prelude.{rules, arith, ◌≡◌, [], length, ap, ◌∙◌, nil_from_length, poly_between, sized}
use Rattle.expressions.proofs.WordRuns.{no-word}
use Rattle.expressions.proofs.polynomial.multiply.Goals as goal

pub returns-else-len-gt0-clause-product : goal.returns-else-len-gt0-clause-product
returns-else-len-gt0-clause-product c =
    let begun = c.args.begun.now in
    let letters : c.len.result ≡ length begun.word = search rules in
    let none : length begun.word ≡ 0 = omega (arith, letters, c.if-len-gt0.false) in
    ap (λ w. sized (poly_between [] begun.product.terms w)) (nil_from_length begun.word none) ∙ no-word begun.product.terms begun.product.canonical
