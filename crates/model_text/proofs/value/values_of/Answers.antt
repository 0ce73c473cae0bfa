use Rattle.model_text.proofs.Prelude.{◌∷◌, tokens_of, rows_behind, line_in}
use Rattle.model_text.proofs.Values.{values_are, rows_of_numbers}
use Rattle.model_text.proofs.value.values_of.Goals as goal

pub with_rows-requires-clause-numbers : goal.with_rows-requires-clause-numbers
with_rows-requires-clause-numbers c = rows_of_numbers (tokens_of c.args.first.now) (rows_behind (line_in c.args.rest)) c.requires.rows

pub returns : goal.returns
returns c =
    let same = values_are c.args.modulus (tokens_of c.args.first.now ∷ rows_behind (line_in c.args.rest)) in
    let read = rw c.new.ensures.items at c.with_rows.ensures in
    rw (← same) read
