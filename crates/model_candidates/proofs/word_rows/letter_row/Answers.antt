use Rattle.model_candidates.proofs.Prelude.{◌≡◌, ◌<◌, ◌≤◌, ℕ, get_or, Option, ◌⊎◌, inl, inr, sym, ap, subst, ◌∙◌, cases_lt, All-from_get_or, letters, entry_at, entry_at_below, LetterTable, EntryValues, side_in, letter_table, matrix_in, quiver_in}
use Rattle.model_candidates.proofs.GivenValues.{given_of, positive}
use Rattle.model_candidates.proofs.LetterTables.{table_there}
use Rattle.model_candidates.proofs.WordRows.{FitsLetter, fits_letter, is_unit, identity_entry, letter_ends, letter_inside, tables_long}
use Rattle.model_candidates.proofs.word_rows.letter_row.Goals as goal

pub bounds-given-from : goal.bounds-given-from
bounds-given-from c =
    let x = c.args.given.now in
    let a = c.args.letter.0 in
    tables_long x c.requires.given (letter_inside x c.requires.given c.requires.letter) c.from.ensures

pub table_row-requires-clause-table : goal.table_row-requires-clause-table
table_row-requires-clause-table c =
    let x = c.args.given.now in
    let a = c.args.letter.0 in
    let found = get_or x.tables.now c.from.result c.index-given-from.result in
    let letter = letter_inside x c.requires.given c.requires.letter in
    let read : found ≡ letter_table (quiver_in x) x.shape.now a =
    table_there (quiver_in x) x.shape.now c.index-given-from.result c.requires.given.tables c.from.ensures letter in
    (fits_letter x c.requires.given a letter found read c.in-Some.is).table

pub table_row-requires-clause-row : goal.table_row-requires-clause-row
table_row-requires-clause-row c =
    let x = c.args.given.now in
    let a = c.args.letter.0 in
    let found = get_or x.tables.now c.from.result c.index-given-from.result in
    let letter = letter_inside x c.requires.given c.requires.letter in
    let read : found ≡ letter_table (quiver_in x) x.shape.now a =
    table_there (quiver_in x) x.shape.now c.index-given-from.result c.requires.given.tables c.from.ensures letter in
    subst (λ n. c.args.row < n) (sym (fits_letter x c.requires.given a letter found read c.in-Some.is).rows) c.requires.row

pub returns-in-Some-clause-row : goal.returns-in-Some-clause-row
returns-in-Some-clause-row c = λ k inside.
    let x = c.args.given.now in
    let a = c.args.letter.0 in
    let found = get_or x.tables.now c.from.result c.index-given-from.result in
    let letter = letter_inside x c.requires.given c.requires.letter in
    let read : found ≡ letter_table (quiver_in x) x.shape.now a =
    table_there (quiver_in x) x.shape.now c.index-given-from.result c.requires.given.tables c.from.ensures letter in
    let fits = fits_letter x c.requires.given a letter found read c.in-Some.is in
    let in_rows : c.args.row < c.in-Some.table.rows = subst (λ n. c.args.row < n) (sym fits.rows) c.requires.row in
    let in_columns : k < c.in-Some.table.columns = subst (λ n. k < n) (sym fits.columns) inside in
    c.table_row.ensures.each k in_columns ∙ fits.entries c.args.row k in_rows in_columns

pub returns-in-Some-clause-below : goal.returns-in-Some-clause-below
returns-in-Some-clause-below c =
    All-from_get_or (λ entry. entry < c.args.given.now.shape.now.modulus) c.table_row.result 0 (λ k inside. go k (cases_lt k c.in-Some.table.columns))
  where
    x : EntryValues
    x = c.args.given.now

    a : ℕ
    a = c.args.letter.0

    found : Option LetterTable
    found = get_or x.tables.now c.from.result c.index-given-from.result

    letter : a < letters (quiver_in x)
    letter = letter_inside x c.requires.given c.requires.letter

    read : found ≡ letter_table (quiver_in x) x.shape.now a
    read = table_there (quiver_in x) x.shape.now c.index-given-from.result c.requires.given.tables c.from.ensures letter

    fits : FitsLetter x a c.in-Some.table
    fits = fits_letter x c.requires.given a letter found read c.in-Some.is

    in_rows : c.args.row < c.in-Some.table.rows
    in_rows = subst (λ n. c.args.row < n) (sym fits.rows) c.requires.row

    go : (k : ℕ) → (k < c.in-Some.table.columns) ⊎ (c.in-Some.table.columns ≤ k) → get_or c.table_row.result k 0 < x.shape.now.modulus
    go k (inl inside) =
        let ends = letter_ends x c.requires.given letter in
        subst (λ e. e < x.shape.now.modulus) (sym (c.table_row.ensures.each k inside ∙ fits.entries c.args.row k in_rows inside))
        (entry_at_below x.shape.now.modulus (matrix_in x a) c.args.row k ends.arrow (subst (λ n. c.args.row < n) (fits.rows ∙ sym ends.target) in_rows)
        (subst (λ n. k < n) (fits.columns ∙ sym ends.source) inside))
    go k (inr past) =
        subst (λ e. e < x.shape.now.modulus) (sym (c.table_row.ensures.rest k past)) (positive (given_of c.requires.given))

pub returns-in-None-clause-row : goal.returns-in-None-clause-row
returns-in-None-clause-row c = λ k inside.
    let x = c.args.given.now in
    let a = c.args.letter.0 in
    let side = side_in x.shape.now in
    let found = get_or x.tables.now c.from.result c.index-given-from.result in
    let letter = letter_inside x c.requires.given c.requires.letter in
    let read : found ≡ letter_table (quiver_in x) x.shape.now a =
    table_there (quiver_in x) x.shape.now c.index-given-from.result c.requires.given.tables c.from.ensures letter in
    let unit = is_unit x c.requires.given a letter found read c.in-None.is in
    c.unit_row.ensures.each k ∙ sym (identity_entry x.shape.now.modulus (subst (λ v. c.args.row < side v) unit.target_is c.requires.row)
    (subst (λ v. k < side v) unit.source_is inside))
    ∙ ap (λ y. entry_at y c.args.row k) (sym unit.matrix)
