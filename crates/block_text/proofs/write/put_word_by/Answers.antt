use Rattle.block_text.proofs.Prelude.{rules, arith, ◌≡◌, ◌<◌, ◌++◌, length, gap_text}
use Rattle.block_text.proofs.Joins.{letter_put}
use Rattle.block_text.proofs.write.put_word_by.Goals as goal

pub loop-place-preserved : goal.loop-place-preserved
loop-place-preserved g c =
    let put : c.put_letter.new.out.items ≡ c.put_gap.new.out.items ++ g.L.Letters.text c.args.letters.now c.letter.result.0 = search rules in
    let gap : c.put_gap.new.out.items ≡ c.loop-place.out.items ++ gap_text c.loop-place.place = search rules in
    let within : c.loop-place.place < length c.args.word.now = omega (arith, c.loop-place-test.true, c.len-place-end.ensures.exact) in
    letter_put (g.L.Letters.text c.args.letters.now) c.args.word.now c.loop-place.place c.letter.result.0 c.args.out.now.items c.loop-place.out.items c.put_gap.new.out.items c.put_letter.new.out.items
    c.loop-place.invariant gap put within c.letter.ensures
