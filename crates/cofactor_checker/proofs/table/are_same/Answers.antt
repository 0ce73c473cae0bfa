use Rattle.cofactor_checker.proofs.Prelude.{rules, ◌≡◌, ◌≢◌, get_or, length, sym}
use Rattle.cofactor_checker.proofs.Words.{apart_by_length, apart_by_letter, same_by_letters}
use Rattle.cofactor_checker.proofs.table.are_same.Goals as goal

pub returns-then-length-len : goal.returns-then-length-len
returns-then-length-len c =
    let differ : length c.args.word.now ≢ length c.args.other.now = search rules in
    sym (apart_by_length c.args.word.now c.args.other.now differ)

pub returns-then-ne : goal.returns-then-ne
returns-then-ne c =
    let differ : get_or c.args.word.now c.loop-place.place 0 ≢ get_or c.args.other.now c.loop-place.place 0 = search rules in
    sym (apart_by_letter c.args.word.now c.args.other.now c.loop-place.place differ)

pub returns : goal.returns
returns c =
    let lengths : length c.args.word.now ≡ length c.args.other.now = search rules in
    sym (same_by_letters c.args.word.now c.args.other.now c.loop-place.place c.loop-place.invariant (search rules) lengths)
