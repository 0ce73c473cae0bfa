-- Rows that are written are lines of tokens, and what those say.
use Rattle.certificate_text.proofs.Prelude.{◌≡◌, ◌<◌, ◌≤◌, ◌^◌, ◌+◌, ℕ, Bool, true, false, cond, List, [], ◌∷◌, ◌++◌, Ok, arith, refl, sym, ap, ◌∙◌, subst, length, map, codes, IsTrue, decimal, signed_decimal, All, AllZip, flat_map, sum_by, append_assoc, length-map, sum_by-cons, All-head, All-tail, All-weaker, All-map, All-append, Declaration, CertRow, CertFrom, Generator, LemmaRow, word_limit, goes_on, tokens_of, number_limit, RowTokens, row_limit, letter_limit, is_row, row_values, from, origin_tokens, row_line, Bound, letters_in, HasNames, HasNumbers, HasShortWords, IsLemmaRowOf, letter_text, word_text, origin_text, lemma_row_text, IsLineText, number_of, IsTextOf, no_text, text-append, text_of_tokens, IsInteger, decimal_text, decimal_number, decimal_within, line_text-append, literal, IsWrittenWord, plain_name, IsToken, token_read, tokens_read, name_token}
use Rattle.traced_rows.specs.declared.evidence.CertFrom.TheVariants.{Lemma}
use Rattle.certificate_text.specs.Bounds as bounds
use Rattle.certificate_text.proofs.RowTrees.{RowsWithin}
pub use Rattle.certificate_text.proofs.RowTrees.{letters_in-append}

-- the tokens of a row
abbrev is_over_lemma : CertFrom → Bool
is_over_lemma (Generator n) = false
is_over_lemma (Lemma n) = true

abbrev pub row_tree : List Declaration → LemmaRow → RowTokens
row_tree ds row = record {
  coefficient = signed_decimal row.coef;
  left = map (letter_text ds) row.left;
  lemma = is_over_lemma row.from;
  number = decimal (number_of row.from);
  right = map (letter_text ds) row.right;
}

-- a row of format 1 as one of format 2
abbrev pub over_generator : CertRow → LemmaRow
over_generator row = record { coef = row.coef; left = row.left; from = Generator row.generator; right = row.right }

-- what is known of a row that is written
pub record IsWrittenRow (ds : List Declaration) (row : LemmaRow) : Type 0 where
  pub coefficient : IsInteger row.coef
  pub number : number_of row.from < 2 ^ 32
  pub left : IsWrittenWord ds row.left
  pub right : IsWrittenWord ds row.right
  pub short_left : length row.left ≤ word_limit
  pub short_right : length row.right ≤ word_limit

-- the text of a row without its LF
abbrev line_text : List Declaration → LemmaRow → List ℕ
line_text ds row = codes "row " ++ (signed_decimal row.coef ++ (codes " (" ++ (word_text ds row.left ++ (codes ") " ++ (origin_text row.from ++ (codes " (" ++ (word_text ds row.right ++ codes ")")))))))

line_is : (ds : List Declaration) (row : LemmaRow) → lemma_row_text ds row ≡ line_text ds row ++ 10 ∷ []
line_is ds row = simp append_assoc refl

-- a generator or a lemma, before a character that doesn't continue its number
origin_read : (source : CertFrom) (rest : List ℕ) → IsToken (decimal (number_of source)) → goes_on rest ≡ false
    → tokens_of (origin_text source ++ rest) ≡ cond (is_over_lemma source) (codes "lemma" ∷ decimal (number_of source) ∷ []) (decimal (number_of source) ∷ []) ++ tokens_of rest
origin_read (Generator n) rest token stops = token_read (decimal n) rest token stops
origin_read (Lemma n) rest token stops = ap (λ ts. codes "lemma" ∷ ts) (token_read (decimal n) rest token stops)

origin_line : (source : CertFrom) → IsLineText (decimal (number_of source)) → IsLineText (origin_text source)
origin_line (Generator n) text = text
origin_line (Lemma n) text = line_text-append (codes "lemma ") (decimal n) (literal (codes "lemma ") refl refl) text

module _ (ds : List Declaration) (row : LemmaRow) (written : IsWrittenRow ds row) where
  small : number_of row.from < 10 ^ 64
  small = omega (arith, written.number)

  number_token : IsToken (decimal (number_of row.from))
  number_token = name_token (decimal (number_of row.from)) (decimal_text (number_of row.from) small)

  -- what follows each part
  abbrev behind_origin : List ℕ
  behind_origin = codes " (" ++ (word_text ds row.right ++ codes ")")

  abbrev behind_left : List ℕ
  behind_left = codes ") " ++ (origin_text row.from ++ behind_origin)

  abbrev behind_coefficient : List ℕ
  behind_coefficient = codes " (" ++ (word_text ds row.left ++ behind_left)

  tokens_of_row : tokens_of (line_text ds row) ≡ row_line (row_tree ds row)
  tokens_of_row =
      let right = tokens_read (map (letter_text ds) row.right) (codes ")") written.right.tokens refl in
      let origin = origin_read row.from behind_origin number_token refl in
      let left = tokens_read (map (letter_text ds) row.left) behind_left written.left.tokens refl in
      let coefficient = token_read (signed_decimal row.coef) behind_coefficient written.coefficient.token refl in
      ap (λ ts. codes "row" ∷ ts) (coefficient
      ∙ ap (λ ts. signed_decimal row.coef ∷ codes "(" ∷ ts) (left
      ∙ ap (λ ts. map (letter_text ds) row.left ++ (codes ")" ∷ ts)) (origin
      ∙ ap (λ ts. origin_tokens (row_tree ds row) ++ (codes "(" ∷ ts)) right)))

  row_inside : IsLineText (line_text ds row)
  row_inside =
      let integer : IsLineText (signed_decimal row.coef) = record { utf8 = written.coefficient.utf8; inside = written.coefficient.inside } in
      let number = origin_line row.from (plain_name (decimal (number_of row.from)) (decimal_text (number_of row.from) small)).line in
      let right = line_text-append (word_text ds row.right) (codes ")") written.right.line (literal (codes ")") refl refl) in
      let opened_again = line_text-append (codes " (") _ (literal (codes " (") refl refl) right in
      let origin = line_text-append (origin_text row.from) _ number opened_again in
      let shut = line_text-append (codes ") ") _ (literal (codes ") ") refl refl) origin in
      let left = line_text-append (word_text ds row.left) _ written.left.line shut in
      let opened = line_text-append (codes " (") _ (literal (codes " (") refl refl) left in
      let coefficient = line_text-append (signed_decimal row.coef) _ integer opened in
      line_text-append (codes "row ") _ (literal (codes "row ") refl refl) coefficient

  pub row_is_text : IsTextOf (lemma_row_text ds row) (row_line (row_tree ds row) ∷ [])
  row_is_text =
      subst (λ (text : List ℕ). IsTextOf text (row_line (row_tree ds row) ∷ [])) (sym (line_is ds row))
      (text_of_tokens (line_text ds row) (row_line (row_tree ds row)) row_inside tokens_of_row refl)

  -- what it says
  abbrev values : CertRow
  values = record { coef = row.coef; left = row.left; generator = number_of row.from; right = row.right }

  pub row_is_row : is_row (row_tree ds row) ≡ true
  row_is_row = rw (written.coefficient.number, written.left.letters, decimal_number (number_of row.from) small, written.right.letters) refl

  pub row_says : row_values ds (row_tree ds row) ≡ Ok values
  row_says =
      rw (written.left.read, written.right.read, written.coefficient.value, decimal_within number_limit (number_of row.from) (omega (arith, written.number)) small) refl

  pub row_names : HasNames ds (row_tree ds row)
  row_names = record { left = (row.left, written.left.read); right = (row.right, written.right.read) }

  pub row_numbers : HasNumbers (row_tree ds row)
  row_numbers = record {
    coefficient = (row.coef, written.coefficient.value);
    number = (number_of row.from, decimal_within number_limit (number_of row.from) (omega (arith, written.number)) small);
  }

  pub row_words : HasShortWords (row_tree ds row)
  row_words = record { left = rw length-map written.short_left; right = rw length-map written.short_right }

over_same : (source : CertFrom) → source ≡ from (is_over_lemma source) (number_of source)
over_same (Generator n) = refl
over_same (Lemma n) = refl

pub lemma_row_says : (ds : List Declaration) (row : LemmaRow) → IsWrittenRow ds row → IsLemmaRowOf ds (row_tree ds row) row
lemma_row_says ds row written = (
  record { coef = row.coef; left = row.left; generator = number_of row.from; right = row.right },
  row_says ds row written,
  ap (λ (source : CertFrom). record { coef = row.coef; left = row.left; from = source; right = row.right }) (over_same row.from),
)

-- numbers and letters are at their places, and are within the bounds on rows
pub record AreRows (ds : List Declaration) (rows : List RowTokens) : Type 0 where
  pub each : All (λ r. IsTrue (is_row r)) rows
  pub names : All (HasNames ds) rows
  pub numbers : All HasNumbers rows
  pub words : All HasShortWords rows

pub rows-append : (ds : List Declaration) (xs ys : List RowTokens) → AreRows ds xs → AreRows ds ys → AreRows ds (xs ++ ys)
rows-append ds xs ys left right = record {
  each = All-append (λ r. IsTrue (is_row r)) xs ys left.each right.each;
  names = All-append (HasNames ds) xs ys left.names right.names;
  numbers = All-append HasNumbers xs ys left.numbers right.numbers;
  words = All-append HasShortWords xs ys left.words right.words;
}

-- within all bounds, where they are few and have few letters
pub rows_within : (ds : List Declaration) (rs : List RowTokens) → AreRows ds rs → length rs ≤ row_limit → letters_in rs ≤ letter_limit → (bound : Bound) → RowsWithin ds rs bound
rows_within ds rs are few crowd bounds.names = are.names
rows_within ds rs are few crowd bounds.numbers = are.numbers
rows_within ds rs are few crowd bounds.words = are.words
rows_within ds rs are few crowd bounds.rows = few
rows_within ds rs are few crowd bounds.letters = crowd

pub zip_by : {A B : Type 0} (R : A → B → Type 0) (f : B → A) (ys : List B) → All (λ y. R (f y) y) ys → AllZip R (map f ys) ys
zip_by R f [] each = tt
zip_by R f (y ∷ ys) each = (All-head (λ x. R (f x) x) y ys each, zip_by R f ys (All-tail (λ x. R (f x) x) y ys each))

-- rows of either format
module _ {X : Type 0} (ds : List Declaration) (shown : X → LemmaRow) where
  abbrev pub trees : List X → List RowTokens
  trees rows = map (λ row. row_tree ds (shown row)) rows

  pub rows_are_text : (rows : List X) → All (λ row. IsWrittenRow ds (shown row)) rows → IsTextOf (flat_map (λ row. lemma_row_text ds (shown row)) rows) (map row_line (trees rows))
  rows_are_text [] each = no_text
  rows_are_text (row ∷ rows) each =
      text-append (lemma_row_text ds (shown row)) (flat_map (λ row. lemma_row_text ds (shown row)) rows) (row_line (row_tree ds (shown row)) ∷ []) (map row_line (trees rows))
      (row_is_text ds (shown row) (All-head (λ x. IsWrittenRow ds (shown x)) row rows each)) (rows_are_text rows (All-tail (λ x. IsWrittenRow ds (shown x)) row rows each))

  along : (P : RowTokens → Type 0) → ((row : LemmaRow) → IsWrittenRow ds row → P (row_tree ds row)) → (rows : List X) → All (λ row. IsWrittenRow ds (shown row)) rows → All P (trees rows)
  along P holds rows each = All-map P (λ row. row_tree ds (shown row)) rows (All-weaker (λ row. IsWrittenRow ds (shown row)) (λ row. P (row_tree ds (shown row))) (λ row. holds (shown row)) rows each)

  pub rows_are_rows : (rows : List X) → All (λ row. IsWrittenRow ds (shown row)) rows → AreRows ds (trees rows)
  rows_are_rows rows each = record {
    each = along (λ r. IsTrue (is_row r)) (row_is_row ds) rows each;
    names = along (HasNames ds) (row_names ds) rows each;
    numbers = along HasNumbers (row_numbers ds) rows each;
    words = along HasShortWords (row_words ds) rows each;
  }

  pub letters_in-trees : (rows : List X) → letters_in (trees rows) ≡ sum_by (λ row. length (shown row).left + length (shown row).right) rows
  letters_in-trees [] = refl
  letters_in-trees (row ∷ rows) =
      rw (sum_by-cons (λ row. length (shown row).left + length (shown row).right) row rows, length-map, length-map, letters_in-trees rows) refl
