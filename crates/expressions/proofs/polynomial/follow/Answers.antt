use Rattle.expressions.proofs.Prelude.{rules, ◌≡◌, pos, [], ◌∷◌, ◌++◌, Ok, sym, ap, ◌∙◌, poly_between, sized, product_result, product_begun, ◌>>=◌}
use Rattle.expressions.proofs.WordRuns.{words-behind, no-word}
use Rattle.expressions.proofs.polynomial.follow.Goals as goal

-- one more letter is appended to the word
pub returns-then-saturating_add-le-WORD_LIMIT : goal.returns-then-saturating_add-le-WORD_LIMIT
returns-then-saturating_add-le-WORD_LIMIT c =
    let begun = c.args.begun.now in
    let letter = c.in-Some.word.now in
    let next : c.args.next.now.terms ≡ (pos 1, letter) ∷ [] = search rules in
    let word : c.in_ok-begun.field-0 ≡ begun.word ++ letter = search rules in
    ap (λ w. sized (poly_between [] begun.product.terms w)) word
    ∙ sym (words-behind begun.word letter begun.product.terms begun.product.canonical)
    ∙ ap (λ terms. product_begun begun >>= λ p. product_result p terms) (sym next)

-- the word is multiplied in, and then the factor
pub returns : goal.returns
returns c =
    let before = c.multiply.new.begun.product.terms in
    let after = c.in_ok-begun-2.field-0 in
    let none : c.multiply.new.begun.word ≡ [] = search rules in
    let begun : product_begun c.args.begun.now ≡ Ok before = search rules in
    let made : product_result before c.args.next.now.terms ≡ Ok after.terms = search rules in
    ap (λ w. sized (poly_between [] after.terms w)) none
    ∙ no-word after.terms after.canonical
    ∙ sym made
    ∙ ap (λ r. r >>= λ p. product_result p c.args.next.now.terms) (sym begun)
