use Rattle.cancellation_text.proofs.Prelude.{rules, ◌≡◌, ◌++◌, ap, ◌∙◌, append_assoc, take_all, flat_map, Left, Right, called_text}
use Rattle.cancellation_text.proofs.write.put_letters.Goals as goal

pub loop-letter-2-init : goal.loop-letter-2-init
loop-letter-2-init c =
    c.loop-letter.invariant
    ∙ ap (λ letters. c.args.out.now.items ++ flat_map (called_text c.args.quiver.now Left) letters)
    (take_all c.loop-letter.letter-index c.as_slice-letter-items.result.now c.loop-letter-test.false ∙ c.as_slice-letter-items.ensures)
    ∙ search rules

pub returns : goal.returns
returns c =
    c.loop-letter-2.invariant
    ∙ ap (λ letters. (c.args.out.now.items ++ flat_map (called_text c.args.quiver.now Left) c.args.proof.now.monic) ++ flat_map (called_text c.args.quiver.now Right) letters)
    (take_all c.loop-letter-2.letter-index c.as_slice-letter-items-2.result.now c.loop-letter-2-test.false ∙ c.as_slice-letter-items-2.ensures)
    ∙ append_assoc c.args.out.now.items (flat_map (called_text c.args.quiver.now Left) c.args.proof.now.monic) (flat_map (called_text c.args.quiver.now Right) c.args.proof.now.epic)
