use Rattle.model_text.proofs.Prelude.{rules, arith, ◌≡◌, ◌++◌, ◌∷◌, [], ◌∙◌, ap, sym, map-range_with_len_more, side_in}
use Rattle.model_text.proofs.finish.sides_in.Goals as goal

pub loop-object-preserved : goal.loop-object-preserved
loop-object-preserved c =
    let pushed : c.push.new.self ≡ c.loop-object.sides ++ side_in c.args.entries.now c.loop-object.object ∷ [] = search rules in
    pushed ∙ ap (λ xs. xs ++ side_in c.args.entries.now c.loop-object.object ∷ []) c.loop-object.invariant
    ∙ sym (map-range_with_len_more (side_in c.args.entries.now) 0 c.loop-object.object c.loop-object.object (omega arith))
