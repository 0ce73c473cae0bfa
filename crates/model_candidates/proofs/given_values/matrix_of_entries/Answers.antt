use Rattle.model_candidates.proofs.Prelude.{◌<◌, ◌≤◌, get_or, ap, ◌∙◌, arith, IsErrOf, Err, leb-true, position-Some, EntryTooLarge}
use Rattle.model_candidates.proofs.given_values.matrix_of_entries.Goals as goal

pub unreachable-requires-in-Err-EntryTooLarge : goal.unreachable-requires-in-Err-EntryTooLarge
unreachable-requires-in-Err-EntryTooLarge c =
    let place = c.in-Err-EntryTooLarge.field-0-0 in
    let e : IsErrOf c.new.result (EntryTooLarge place) = c.in-Err-EntryTooLarge.is ∙ ap Err c.in-Err-EntryTooLarge.field-0-is in
    let found = position-Some _ c.args.entries.now place 0 ((c.new.ensures.entry_too_large place).0 e).1 in
    let large : c.args.modulus ≤ get_or c.args.entries.now place 0 = leb-true _ _ found.1 in
    let small : get_or c.args.entries.now place 0 < c.args.modulus = c.requires.below place 0 found.0 in
    omega arith
