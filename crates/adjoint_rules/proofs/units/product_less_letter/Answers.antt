use Rattle.adjoint_rules.proofs.Prelude.{◌≡◌, ◌∷◌, ◌++◌, [], ap, ◌∙◌, pos, negsuc}
use Rattle.adjoint_rules.proofs.units.product_less_letter.Goals as goal

pub returns : goal.returns
returns c =
    let product : c.push-2.new.self ≡ c.args.first.0 ∷ c.args.second.0 ∷ [] =
    c.in_ok-push-2.ensures.ok ∙ ap (λ w. w ++ c.args.second.0 ∷ []) (c.in_ok-push.ensures.ok ∙ ap (λ w. w ++ c.args.first.0 ∷ []) c.new-product.ensures) in
    let single : c.push-3.new.self ≡ c.args.letter.0 ∷ [] = c.in_ok-push-3.ensures.ok ∙ ap (λ w. w ++ c.args.letter.0 ∷ []) c.new-single.ensures in
    c.in_ok-push-5.ensures.ok
    ∙ ap (λ ts. ts ++ (negsuc 0, c.push-3.new.self) ∷ []) (c.in_ok-push-4.ensures.ok ∙ ap (λ ts. ts ++ (pos 1, c.push-2.new.self) ∷ []) c.new-terms.ensures)
    ∙ ap (λ w. (pos 1, w) ∷ (negsuc 0, c.push-3.new.self) ∷ []) product
    ∙ ap (λ w. (pos 1, c.args.first.0 ∷ c.args.second.0 ∷ []) ∷ (negsuc 0, w) ∷ []) single
