use Rattle.model_text.proofs.Prelude.{◌<◌, ◌∙◌, arith, ap, get_or, nat_le, Err, nat_tests, position-Some}
use Rattle.model_text.proofs.value.matrix_made.Goals as goal

-- the shape is one
pub unreachable-requires : goal.unreachable-requires
unreachable-requires c =
    c.new.ensures.bad_shape.0 (c.in-Err-BadShape.is ∙ ap Err c.in-Err-BadShape.field-0-is) (record {
      rows_side = record { positive = c.requires.rows; at_most = c.if-rows.false };
      columns_side = record { positive = c.requires.columns; at_most = c.if-columns.false };
      size = c.requires.count;
    })

-- the entries are below the modulus
pub unreachable-requires-in-Err-EntryTooLarge : goal.unreachable-requires-in-Err-EntryTooLarge
unreachable-requires-in-Err-EntryTooLarge c =
    let found = (c.new.ensures.entry_too_large c.in-Err-EntryTooLarge.field-0-0).0 (c.in-Err-EntryTooLarge.is ∙ ap Err c.in-Err-EntryTooLarge.field-0-is) in
    let large = position-Some (λ entry. nat_le c.args.modulus entry) c.args.entries.now c.in-Err-EntryTooLarge.field-0-0 0 found.1 in
    let below : get_or c.args.entries.now c.in-Err-EntryTooLarge.field-0-0 0 < c.args.modulus = c.requires.below c.in-Err-EntryTooLarge.field-0-0 0 large.0 in
    grind (arith, nat_tests, large.1, below)
