use Rattle.model_text.proofs.Prelude.{rules, arith, ◌≡◌, ◌<◌, ◌++◌, ◌∙◌, ap, refl, get_or, length, None, get_or_read_under, map_text}
use Rattle.model_text.proofs.Ranges.{text_put}
use Rattle.model_text.proofs.write.put_maps.Goals as goal

pub loop-letter-preserved : goal.loop-letter-preserved
loop-letter-preserved c =
    let within : c.loop-letter.letter < length c.args.maps.now = omega (arith, c.loop-letter-test.true, c.letters-letter-end.ensures.count, c.requires) in
    let same : c.index-maps-letter.result ≡ get_or c.args.maps.now c.loop-letter.letter None = get_or_read_under c.args.maps.now c.loop-letter.letter (length c.args.maps.now) c.index-maps-letter.result None c.index-maps-letter.is within refl in
    let put : c.put_map.new.out.items ≡ c.loop-letter.out.items ++ map_text c.args.quiver.now c.loop-letter.letter c.index-maps-letter.result = search rules in
    text_put (λ a. map_text c.args.quiver.now a (get_or c.args.maps.now a None)) c.loop-letter.letter c.args.out.now.items c.loop-letter.out.items c.put_map.new.out.items c.loop-letter.invariant
    (put ∙ ap (λ x. c.loop-letter.out.items ++ map_text c.args.quiver.now c.loop-letter.letter x) same)
