use Rattle.model_candidates.proofs.Prelude.{◌≡◌, ◌*◌, ◌%◌, ◌<◌, get_or, sym, ap, subst, ◌∙◌, entry_at, total, total_same, side_in, letter_table, value_in_table, matrix_in, quiver_in}
use Rattle.model_candidates.proofs.LetterTables.{table_there}
use Rattle.model_candidates.proofs.WordRows.{entry_below, fits_letter, is_unit, letter_inside, row_times_identity, tables_long}
use Rattle.model_candidates.proofs.word_rows.row_times.Goals as goal

pub bounds-given-from : goal.bounds-given-from
bounds-given-from c =
    let x = c.args.given.now in
    let a = c.args.letter.0 in
    tables_long x c.requires.given (letter_inside x c.requires.given c.requires.letter) c.from.ensures

pub table_product-requires-clause-table : goal.table_product-requires-clause-table
table_product-requires-clause-table c =
    let x = c.args.given.now in
    let a = c.args.letter.0 in
    let found = get_or x.tables.now c.from.result c.index-given-from.result in
    let letter = letter_inside x c.requires.given c.requires.letter in
    let read : found ≡ letter_table (quiver_in x) x.shape.now a =
    table_there (quiver_in x) x.shape.now c.index-given-from.result c.requires.given.tables c.from.ensures letter in
    (fits_letter x c.requires.given a letter found read c.in-Some.is).table

pub returns-in-Some-clause-each : goal.returns-in-Some-clause-each
returns-in-Some-clause-each c = λ k inside.
    let x = c.args.given.now in
    let a = c.args.letter.0 in
    let row = c.args.row.now in
    let m = x.shape.now.modulus in
    let found = get_or x.tables.now c.from.result c.index-given-from.result in
    let letter = letter_inside x c.requires.given c.requires.letter in
    let read : found ≡ letter_table (quiver_in x) x.shape.now a =
    table_there (quiver_in x) x.shape.now c.index-given-from.result c.requires.given.tables c.from.ensures letter in
    let t = c.in-Some.table in
    let fits = fits_letter x c.requires.given a letter found read c.in-Some.is in
    let in_columns : k < t.columns = subst (λ n. k < n) (sym fits.columns) inside in
    c.table_product.ensures.each k in_columns
    ∙ ap (λ y. y % m) (total_same t.rows (λ j. get_or row j 0 * value_in_table x.values.now t j k)
    (λ j. get_or row j 0 * entry_at (matrix_in x a) j k) (λ j within. ap (λ y. get_or row j 0 * y) (fits.entries j k within in_columns)))
    ∙ ap (λ n. total n (λ j. get_or row j 0 * entry_at (matrix_in x a) j k) % m) fits.rows

pub returns-in-None-clause-each : goal.returns-in-None-clause-each
returns-in-None-clause-each c = λ k inside.
    let x = c.args.given.now in
    let a = c.args.letter.0 in
    let row = c.args.row.now in
    let m = x.shape.now.modulus in
    let side = side_in x.shape.now in
    let found = get_or x.tables.now c.from.result c.index-given-from.result in
    let letter = letter_inside x c.requires.given c.requires.letter in
    let read : found ≡ letter_table (quiver_in x) x.shape.now a =
    table_there (quiver_in x) x.shape.now c.index-given-from.result c.requires.given.tables c.from.ensures letter in
    let unit = is_unit x c.requires.given a letter found read c.in-None.is in
    let within : k < side a = subst (λ v. k < side v) unit.source_is inside in
    sym (row_times_identity row within (entry_below x c.requires.given row k c.requires.below))
    ∙ ap (λ y. total (side a) (λ j. get_or row j 0 * entry_at y j k) % m) (sym unit.matrix)
    ∙ ap (λ v. total (side v) (λ j. get_or row j 0 * entry_at (matrix_in x a) j k) % m) (sym unit.target_is)
