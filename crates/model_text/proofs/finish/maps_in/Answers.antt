use Rattle.model_text.proofs.Prelude.{rules, arith, ◌≡◌, ◌++◌, ◌∷◌, [], ◌∙◌, ap, sym, map-range_with_len_more, matrix_in}
use Rattle.model_text.proofs.finish.maps_in.Goals as goal

pub loop-letter-preserved : goal.loop-letter-preserved
loop-letter-preserved c =
    let pushed : c.push.new.self ≡ c.loop-letter.maps ++ matrix_in c.args.entries.now c.loop-letter.letter ∷ [] = search rules in
    pushed ∙ ap (λ xs. xs ++ matrix_in c.args.entries.now c.loop-letter.letter ∷ []) c.loop-letter.invariant
    ∙ sym (map-range_with_len_more (matrix_in c.args.entries.now) 0 c.loop-letter.letter c.loop-letter.letter (omega arith))
