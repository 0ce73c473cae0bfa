-- What is read of a matrix that is written.
use Rattle.model_text.proofs.Prelude.{◌≡◌, ◌<◌, ◌+◌, ◌*◌, ◌^◌, ◌==◌, ℕ, zero, suc, Bool, true, false, cond, List, [], ◌∷◌, ◌++◌, arith, refl, sym, ap, ap₂, ◌∙◌, length, map, get_or, drop, codes, decimal, flat_map, range_with_len, ne_eqb, decimal_is_IsNumeral_wide, append_assoc, map-append, length-map-range_with_len, fill_by_all, Matrix, entry_at, IsMatrix, Line, goes_on, tokens_of, IsLineText, decimal_text, line_text-append, literal, plain_name, IsToken, token_read, name_token, more_rows, value_of, matrix_value, between, entry_text, row_text, part_text, rows_text}
use Rattle.model_text.proofs.Ranges.{range-append}

pub value_back : (n : ℕ) → n < 10 ^ 64 → value_of (decimal n) ≡ n
value_back n below = (decimal_is_IsNumeral_wide n below).1

-- parts with a sign between them
between_later : (sign : List ℕ) (place : ℕ) → 0 < place → between sign place ≡ sign
between_later sign place some =
    let other : (place == 0) ≡ false = ne_eqb place 0 (λ e. omega (arith, e, some)) in
    rw other refl

module _ (sign : List ℕ) (body : ℕ → List ℕ) where
  later : (a n : ℕ) → 0 < a → flat_map (λ p. between sign p ++ body p) (range_with_len a n) ≡ flat_map (λ p. sign ++ body p) (range_with_len a n)
  later a zero some = refl
  later a (suc n) some = ap₂ (λ (one : List ℕ) more. one ++ body a ++ more) (between_later sign a some) (later (a + 1) n (omega arith))

  -- the first part has none before it
  parts_are : (n : ℕ) → flat_map (λ p. between sign p ++ body p) (range_with_len 0 (suc n)) ≡ body 0 ++ flat_map (λ p. sign ++ body p) (range_with_len 1 n)
  parts_are n = ap (λ text. body 0 ++ text) (later 1 n (omega arith))

between_line : (sign : List ℕ) (first : Bool) → IsLineText sign → IsLineText (cond first [] sign)
between_line sign true line = literal [] refl refl
between_line sign false line = line

flat_line : (f : ℕ → List ℕ) → ((p : ℕ) → IsLineText (f p)) → (ps : List ℕ) → IsLineText (flat_map f ps)
flat_line f each [] = literal [] refl refl
flat_line f each (p ∷ ps) = line_text-append (f p) (flat_map f ps) (each p) (flat_line f each ps)

-- the tokens of a matrix
abbrev pub row_tokens : Matrix → ℕ → Line
row_tokens x row = map (λ column. decimal (entry_at x row column)) (range_with_len 0 x.columns)

-- the rows after the first one
abbrev pub later_rows : Matrix → List Line
later_rows x = map (row_tokens x) (drop 1 (range_with_len 0 x.rows))

module _ (x : Matrix) (small : (row column : ℕ) → entry_at x row column < 10 ^ 64) where
  entry_token : (row column : ℕ) → IsToken (decimal (entry_at x row column))
  entry_token row column = name_token (decimal (entry_at x row column)) (decimal_text (entry_at x row column) (small row column))

  -- entries, each after a blank
  abbrev entries_text : ℕ → List ℕ → List ℕ
  entries_text row columns = flat_map (λ column. codes " " ++ decimal (entry_at x row column)) columns

  entries_stop : (row : ℕ) (columns rest : List ℕ) → goes_on rest ≡ false → goes_on (entries_text row columns ++ rest) ≡ false
  entries_stop row [] rest stops = stops
  entries_stop row (column ∷ columns) rest stops = refl

  entries_read : (row : ℕ) (columns rest : List ℕ) → goes_on rest ≡ false
      → tokens_of (entries_text row columns ++ rest) ≡ map (λ column. decimal (entry_at x row column)) columns ++ tokens_of rest
  entries_read row [] rest stops = refl
  entries_read row (column ∷ columns) rest stops =
      let entry = decimal (entry_at x row column) in
      ap tokens_of (append_assoc entry (entries_text row columns) rest)
      ∙ token_read entry (entries_text row columns ++ rest) (entry_token row column) (entries_stop row columns rest stops)
      ∙ ap (λ ts. entry ∷ ts) (entries_read row columns rest stops)

  row_read_of : (row columns : ℕ) (rest : List ℕ) → 0 < columns → goes_on rest ≡ false
      → tokens_of (flat_map (entry_text x row) (range_with_len 0 columns) ++ rest) ≡ map (λ column. decimal (entry_at x row column)) (range_with_len 0 columns) ++ tokens_of rest
  row_read_of row zero rest some stops = absurd (omega (arith, some))
  row_read_of row (suc n) rest some stops =
      let entry = decimal (entry_at x row 0) in
      let more = entries_text row (range_with_len 1 n) in
      ap (λ text. tokens_of (text ++ rest)) (parts_are (codes " ") (λ column. decimal (entry_at x row column)) n)
      ∙ ap tokens_of (append_assoc entry more rest)
      ∙ token_read entry (more ++ rest) (entry_token row 0) (entries_stop row (range_with_len 1 n) rest stops)
      ∙ ap (λ ts. entry ∷ ts) (entries_read row (range_with_len 1 n) rest stops)

  module _ (wide : 0 < x.columns) where
    row_read : (row : ℕ) (rest : List ℕ) → goes_on rest ≡ false → tokens_of (row_text x row ++ rest) ≡ row_tokens x row ++ tokens_of rest
    row_read row rest stops = row_read_of row x.columns rest wide stops

    -- rows, each after a ;
    abbrev behind_text : List ℕ → List ℕ
    behind_text rows = flat_map (λ row. codes " ; " ++ row_text x row) rows

    rows_stop : (rows : List ℕ) → goes_on (behind_text rows) ≡ false
    rows_stop [] = refl
    rows_stop (row ∷ rows) = refl

    rows_read : (rows : List ℕ) → tokens_of (behind_text rows) ≡ more_rows (map (row_tokens x) rows)
    rows_read [] = refl
    rows_read (row ∷ rows) = ap (λ ts. codes ";" ∷ ts) (row_read row (behind_text rows) (rows_stop rows) ∙ ap (λ ts. row_tokens x row ++ ts) (rows_read rows))

    matrix_read_of : (rows : ℕ) → 0 < rows → tokens_of (flat_map (part_text x) (range_with_len 0 rows)) ≡ row_tokens x 0 ++ more_rows (map (row_tokens x) (drop 1 (range_with_len 0 rows)))
    matrix_read_of zero some = absurd (omega (arith, some))
    matrix_read_of (suc n) some =
        let more = range_with_len 1 n in
        ap tokens_of (parts_are (codes " ; ") (row_text x) n)
        ∙ row_read 0 (behind_text more) (rows_stop more)
        ∙ ap (λ ts. row_tokens x 0 ++ ts) (rows_read more)

    pub matrix_read : 0 < x.rows → tokens_of (rows_text x) ≡ row_tokens x 0 ++ more_rows (later_rows x)
    matrix_read some = matrix_read_of x.rows some

  pub matrix_line : IsLineText (rows_text x)
  matrix_line =
      flat_line (part_text x) (λ row. line_text-append _ _ (between_line (codes " ; ") (row == 0) (literal (codes " ; ") refl refl))
      (flat_line (entry_text x row) (λ column. line_text-append _ _ (between_line (codes " ") (column == 0) (literal (codes " ") refl refl))
      (plain_name (decimal (entry_at x row column)) (decimal_text (entry_at x row column) (small row column))).line)
      (range_with_len 0 x.columns)))
      (range_with_len 0 x.rows)

  -- its entries
  abbrev entry : ℕ → ℕ
  entry place = get_or x.entries place 0

  row_values : (row column n : ℕ) → map value_of (map (λ c. decimal (entry_at x row c)) (range_with_len column n)) ≡ map entry (range_with_len (row * x.columns + column) n)
  row_values row column zero = refl
  row_values row column (suc n) =
      let next : row * x.columns + (column + 1) ≡ row * x.columns + column + 1 = omega arith in
      ap₂ (λ (value : ℕ) values. value ∷ values) (value_back (entry_at x row column) (small row column))
      (row_values row (column + 1) n ∙ ap (λ place. map entry (range_with_len place n)) next)

  rows_values : (row n : ℕ) → map value_of (flat_map (λ tokens. tokens) (map (row_tokens x) (range_with_len row n))) ≡ map entry (range_with_len (row * x.columns) (n * x.columns))
  rows_values row zero =
      let none : 0 ≡ 0 * x.columns = omega arith in
      ap (λ count. map entry (range_with_len (row * x.columns) count)) none
  rows_values row (suc n) =
      let start : row * x.columns + 0 ≡ row * x.columns = omega arith in
      let next : (row + 1) * x.columns ≡ row * x.columns + x.columns = omega arith in
      let count : x.columns + n * x.columns ≡ suc n * x.columns = omega arith in
      let here = range_with_len (row * x.columns) x.columns in
      let there = range_with_len (row * x.columns + x.columns) (n * x.columns) in
      map-append value_of (row_tokens x row) (flat_map (λ tokens. tokens) (map (row_tokens x) (range_with_len (row + 1) n)))
      ∙ ap₂ (λ (one : List ℕ) more. one ++ more) (row_values row 0 x.columns ∙ ap (λ place. map entry (range_with_len place x.columns)) start)
      (rows_values (row + 1) n ∙ ap (λ place. map entry (range_with_len place (n * x.columns))) next)
      ∙ sym (map-append entry here there)
      ∙ ap (map entry) (range-append (row * x.columns) x.columns (n * x.columns) ∙ ap (range_with_len (row * x.columns)) count)

first_and_later : (x : Matrix) (rows : ℕ) → 0 < rows → row_tokens x 0 ∷ map (row_tokens x) (drop 1 (range_with_len 0 rows)) ≡ map (row_tokens x) (range_with_len 0 rows)
first_and_later x zero some = absurd (omega (arith, some))
first_and_later x (suc n) some = refl

pub rows_count : (x : Matrix) → 0 < x.rows → length (row_tokens x 0 ∷ later_rows x) ≡ x.rows
rows_count x some = ap length (first_and_later x x.rows some) ∙ length-map-range_with_len (row_tokens x) 0 x.rows

pub columns_count : (x : Matrix) (row : ℕ) → length (row_tokens x row) ≡ x.columns
columns_count x row = length-map-range_with_len (λ column. decimal (entry_at x row column)) 0 x.columns

pub matrix_back : (m : ℕ) (x : Matrix) → ((row column : ℕ) → entry_at x row column < 10 ^ 64) → IsMatrix m x → matrix_value m (row_tokens x 0) (later_rows x) ≡ x
matrix_back m x small is =
    let some : 0 < x.rows = omega (arith, is.shape.rows_side.positive) in
    let count = rows_count x some in
    let columns = columns_count x 0 in
    let whole : x.entries ≡ map (λ place. get_or x.entries place 0) (range_with_len 0 (x.rows * x.columns)) =
    fill_by_all (λ place. get_or x.entries place 0) x.entries (x.rows * x.columns) 0 is.shape.size (λ k below. refl) in
    let start : 0 * x.columns ≡ 0 = omega arith in
    let entries : map value_of (flat_map (λ row. row) (row_tokens x 0 ∷ later_rows x)) ≡ x.entries =
    ap (λ (lists : List Line). map value_of (flat_map (λ row. row) lists)) (first_and_later x x.rows some) ∙ rows_values x small 0 x.rows
    ∙ ap (λ place. map (λ k. get_or x.entries k 0) (range_with_len place (x.rows * x.columns))) start ∙ sym whole in
    λ j. record { modulus = sym is.modulus_is j; rows = count j; columns = columns j; entries = entries j }
