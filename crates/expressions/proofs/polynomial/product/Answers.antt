use Rattle.expressions.proofs.Prelude.{rules, ◌≡◌, [], ◌∷◌, sym, ap, ◌∙◌, into_iter_items, poly_between, sized, product_from, product_poly, ◌>>=◌}
use Rattle.expressions.proofs.PolynomialLoops.{polys_of}
use Rattle.expressions.proofs.WordRuns.{no-word}
use Rattle.expressions.proofs.polynomial.product.Goals as goal

-- no word follows the first factor
pub loop-next-init : goal.loop-next-init
loop-next-init c =
    let first = c.in-Some.first in
    let rest = into_iter_items c.into_iter-next-iterator.result in
    let all : c.args.polys.items ≡ first ∷ rest = search rules in
    let none : c.new.result ≡ [] = search rules in
    record {
      left = search rules;
      rest =
          ap (λ w. sized (poly_between [] first.terms w) >>= λ p. product_from p (polys_of rest)) none
          ∙ ap (λ r. r >>= λ p. product_from p (polys_of rest)) (no-word first.terms first.canonical)
          ∙ ap (λ ps. product_poly (polys_of ps)) (sym all);
    }
