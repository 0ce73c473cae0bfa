use Rattle.model_candidates.proofs.Prelude.{◌+◌, ◌*◌, ◌%◌, ◌≤◌, ap₂, ◌∙◌, arith, less_square}
use Rattle.model_candidates.proofs.word_rows.add_product.Goals as goal

pub returns-else-more-square-clause-alike : goal.returns-else-more-square-clause-alike
returns-else-more-square-clause-alike c =
    let m = c.args.modulus in
    let reached : m * m ≤ c.args.sum + c.from.result * c.from-2.result = omega (arith, c.if-more-square.false) in
    less_square m (c.args.sum + c.from.result * c.from-2.result) reached
    ∙ ap₂ (λ x y. (c.args.sum + x * y) % m) c.from.ensures c.from-2.ensures
