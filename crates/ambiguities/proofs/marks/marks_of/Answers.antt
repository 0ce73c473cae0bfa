use Rattle.ambiguities.proofs.Prelude.{rules, ◌≡◌, ◌<◌, ◌%◌, true, length, get_or, slice_set, arith}
use Rattle.ambiguities.proofs.Marked.{marks_more}
use Rattle.ambiguities.proofs.marks.marks_of.Goals as goal

pub loop-place-preserved : goal.loop-place-preserved
loop-place-preserved c =
    let letter : c.letter.result.0 ≡ get_or c.args.word.now c.loop-place.place 0 = search rules in
    let sized : length (slice_set c.loop-place.marks (c.letter.result.0 % 64) true) ≡ 64 = search rules in
    let some : 0 < 64 = omega arith in
    record {
      sized = sized;
      marked = marks_more c.loop-place.marks c.args.word.now 64 c.loop-place.invariant.sized some c.loop-place.place c.letter.result.0 letter c.loop-place.invariant.marked;
    }
