use Rattle.equation_chain.proofs.Prelude.{rules, ◌≡◌, ◌++◌, [], ◌∷◌, List, ℕ, ap, ◌∙◌, letter_text}
use Rattle.equation_chain.proofs.Spelled.{table_more}
use Rattle.equation_chain.proofs.text.letter_texts.Goals as goal

pub loop-number-preserved : goal.loop-number-preserved
loop-number-preserved c =
    let number = c.loop-number.number in
    let text : c.put_letter.new.out.items ≡ letter_text c.args.quiver.now number = search rules in
    table_more c.args.quiver.now number c.loop-number.texts c.push.new.self c.put_letter.new.out.items c.loop-number.invariant text
    (c.in_ok-push.ensures.ok ∙ ap (λ (t : List ℕ). c.loop-number.texts ++ t ∷ []) c.from_vec.ensures)
