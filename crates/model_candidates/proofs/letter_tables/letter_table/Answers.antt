use Rattle.model_candidates.proofs.Prelude.{length, ap, ◌∙◌, length-range_with_len, quiver_of, entries_of}
use Rattle.model_candidates.proofs.letter_tables.letter_table.Goals as goal

pub letter_values-requires-clause-one_each : goal.letter_values-requires-clause-one_each
letter_values-requires-clause-one_each c =
    ap length c.requires.own ∙ length-range_with_len 0 (length (entries_of (quiver_of c.args.quiver.now) c.args.shape.now))
