use Rattle.representations.proofs.Prelude.{◌-◌, arith}
use Rattle.representations.proofs.Suffixes.{has_path, path_not_empty}
use Rattle.representations.proofs.PathValues.{letter_in_list, letter_arrow, suffix_arrow, ends_meet, value_from_next}
use Rattle.representations.proofs.value.path_value_of.Goals as goal

pub arrow-requires : goal.arrow-requires
arrow-requires g c =
    let laws = g.C.Preadditive.laws c.args.category.now in
    let whole = has_path _ _ c.requires.path in
    let some_letter = path_not_empty whole in
    letter_in_list laws c.requires.represented whole (c.len-place.result - 1) c.letter.result.0 (omega arith) c.letter.ensures

pub copy_of-requires : goal.copy_of-requires
copy_of-requires g c =
    let laws = g.C.Preadditive.laws c.args.category.now in
    let whole = has_path _ _ c.requires.path in
    let some_letter = path_not_empty whole in
    let x = c.arrow.result.now in
    let o = (g.C.Preadditive.structure c.args.category.now).source x in
    (letter_arrow laws c.requires.represented whole (c.len-place.result - 1) c.letter.result.0 (omega arith) c.letter.ensures x c.arrow.ensures o).arrow

pub arrow-arrow-requires : goal.arrow-arrow-requires
arrow-arrow-requires g c =
    let laws = g.C.Preadditive.laws c.args.category.now in
    let whole = has_path _ _ c.requires.path in
    letter_in_list laws c.requires.represented whole (c.loop-place.place - 1) c.letter-in-loop-place.result.0 (omega arith) c.letter-in-loop-place.ensures

pub compose-requires-clause-after_is_arrow : goal.compose-requires-clause-after_is_arrow
compose-requires-clause-after_is_arrow g c =
    let laws = g.C.Preadditive.laws c.args.category.now in
    let whole = has_path _ _ c.requires.path in
    let x = c.arrow-arrow.result.now in
    let o = (g.C.Preadditive.structure c.args.category.now).source x in
    (letter_arrow laws c.requires.represented whole (c.loop-place.place - 1) c.letter-in-loop-place.result.0 (omega arith) c.letter-in-loop-place.ensures x c.arrow-arrow.ensures o).arrow

pub compose-requires-clause-first_is_arrow : goal.compose-requires-clause-first_is_arrow
compose-requires-clause-first_is_arrow g c =
    let laws = g.C.Preadditive.laws c.args.category.now in
    let whole = has_path _ _ c.requires.path in
    let y = c.loop-place.value in
    let o = (g.C.Preadditive.structure c.args.category.now).source y in
    (suffix_arrow laws c.requires.represented whole c.loop-place.place c.loop-place.invariant.within y c.loop-place.invariant.value_is o).arrow

pub compose-requires-clause-fits : goal.compose-requires-clause-fits
compose-requires-clause-fits g c =
    let laws = g.C.Preadditive.laws c.args.category.now in
    let whole = has_path _ _ c.requires.path in
    let x = c.arrow-arrow.result.now in
    let y = c.loop-place.value in
    ends_meet laws c.requires.represented whole (c.loop-place.place - 1) c.loop-place.place (omega arith) c.loop-place.invariant.within x y
    (letter_arrow laws c.requires.represented whole (c.loop-place.place - 1) c.letter-in-loop-place.result.0 (omega arith) c.letter-in-loop-place.ensures x c.arrow-arrow.ensures)
    (suffix_arrow laws c.requires.represented whole c.loop-place.place c.loop-place.invariant.within y c.loop-place.invariant.value_is)

pub loop-place-preserved : goal.loop-place-preserved
loop-place-preserved g c =
    let laws = g.C.Preadditive.laws c.args.category.now in
    let whole = has_path _ _ c.requires.path in
    record {
      within = omega arith;
      value_is = value_from_next laws c.requires.represented whole (c.loop-place.place - 1) c.loop-place.place c.letter-in-loop-place.result.0 (omega arith) c.loop-place.invariant.within
          c.letter-in-loop-place.ensures c.arrow-arrow.result.now c.loop-place.value c.in_ok-value-2.value c.arrow-arrow.ensures c.loop-place.invariant.value_is c.in_ok-value-2.ensures;
    }
