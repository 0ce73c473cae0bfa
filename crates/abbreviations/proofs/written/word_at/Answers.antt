use Rattle.abbreviations.proofs.Prelude.{◌≡◌, ◌∙◌, map, IfOk, sym, ap, subst, take_all, map-map, letter_at, product_at}
use Rattle.abbreviations.proofs.written.word_at.Goals as goal

pub returns : goal.returns
returns c =
    let letters : c.loop-name.factors ≡ map (letter_at c.args.at) (map (λ name. name.now) c.args.names.now) =
    c.loop-name.invariant
    ∙ ap (map (λ name. letter_at c.args.at name.now)) (take_all c.loop-name.name-index c.args.names.now c.loop-name-test.false)
    ∙ sym (map-map _ _ c.args.names.now) in
    subst (λ fs. IfOk c.product_at.result (λ s. s ≡ product_at c.args.at fs)) letters c.product_at.ensures
