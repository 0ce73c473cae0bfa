-- The line of a row is read as the row.
use Rattle.certificate_text.proofs.Prelude.{◌≡◌, ℕ, Bool, true, false, not, ◌&&◌, List, [], ◌∷◌, ◌++◌, Some, None, Result, Ok, Err, IsTrue, arith, refl, codes, if◌then◌else◌, AllByRecursion, list_all, is_utf8, chars, and_parts, is_xid_start-ascii, Declaration, Flaw, BadLine, CertRow, ◌>>=◌, asked, is_letter, is_number, is_integer, is_close, RowTokens, number_part, origin_part, row_parts, is_row, row_of, row_values, lemma_row_of, over_lemma, origin_tokens, row_line, IsPlainRow, closed_behind, other_word}

-- tokens that are no words
no_letter : is_letter (codes ")") ≡ false
unfolding is_utf8 chars lib.Utf8.encode
no_letter = rw (is_xid_start-ascii 41 (omega arith)) refl

letters_are_unclosed : (tokens : List (List ℕ)) → list_all is_letter tokens ≡ true → AllByRecursion (λ t. is_close t ≡ false) tokens
letters_are_unclosed [] all = tt
letters_are_unclosed (token ∷ tokens) all =
    let parts : (is_letter token ≡ true) × (list_all is_letter tokens ≡ true) = and_parts _ _ all in
    (other_word is_letter (codes ")") token parts.0 no_letter, letters_are_unclosed tokens parts.1)

-- the parts of a row
number_read : (coefficient : List ℕ) (left : List (List ℕ)) (lemma : Bool) (number : List ℕ) (right : List (List ℕ)) → AllByRecursion (λ t. is_close t ≡ false) right
    → number_part coefficient left lemma (number ∷ codes "(" ∷ (right ++ codes ")" ∷ [])) ≡ Some (record { coefficient = coefficient; left = left; lemma = lemma; number = number; right = right })
number_read coefficient left lemma number right unclosed = rw (closed_behind right [] unclosed) refl

origin_read : (coefficient : List ℕ) (left : List (List ℕ)) (lemma : Bool) (number : List ℕ) (right : List (List ℕ)) → is_number number ≡ true → AllByRecursion (λ t. is_close t ≡ false) right
    → origin_part coefficient left ((if lemma then codes "lemma" ∷ number ∷ [] else number ∷ []) ++ (codes "(" ∷ (right ++ codes ")" ∷ [])))
    ≡ Some (record { coefficient = coefficient; left = left; lemma = lemma; number = number; right = right })
origin_read coefficient left true number right digits unclosed = number_read coefficient left true number right unclosed
origin_read coefficient left false number right digits unclosed =
    rw (other_word is_number (codes "lemma") number digits refl) (number_read coefficient left false number right unclosed)

-- numbers are at the places of numbers, and letters in the brackets
record IsRow (r : RowTokens) : Type 0 where
  coefficient : is_integer r.coefficient ≡ true
  left : list_all is_letter r.left ≡ true
  number : is_number r.number ≡ true
  right : list_all is_letter r.right ≡ true

row_from : (r : RowTokens) → IsTrue (is_row r) → IsRow r
row_from r row =
    let front : (is_integer r.coefficient ≡ true) × ((list_all is_letter r.left && (is_number r.number && list_all is_letter r.right)) ≡ true) = and_parts _ _ row in
    let middle : (list_all is_letter r.left ≡ true) × ((is_number r.number && list_all is_letter r.right) ≡ true) = and_parts _ _ front.1 in
    let end = and_parts (is_number r.number) (list_all is_letter r.right) middle.1 in
    record { coefficient = front.0; left = middle.0; number = end.0; right = end.1 }

parts_read : (r : RowTokens) → IsTrue (is_row r) → row_parts (row_line r) ≡ Some r
parts_read r row =
    let is = row_from r row in
    rw (closed_behind r.left (origin_tokens r ++ (codes "(" ∷ (r.right ++ codes ")" ∷ []))) (letters_are_unclosed r.left is.left))
    (origin_read r.coefficient r.left r.lemma r.number r.right is.number (letters_are_unclosed r.right is.right))

-- its values
pub row_line_read : (ds : List Declaration) (r : RowTokens) → IsPlainRow r → row_of ds (row_line r) ≡ row_values ds r
row_line_read ds r plain = rw (parts_read r plain.row, plain.generator, plain.row) refl

pub lemma_row_line_read : (ds : List Declaration) (r : RowTokens) → IsTrue (is_row r) → lemma_row_of ds (row_line r) ≡ (row_values ds r >>= λ row. Ok (over_lemma r.lemma row))
lemma_row_line_read ds r row = rw (parts_read r row, row) refl

-- the row of the parts, where they are those of a row
abbrev row_at : List Declaration → RowTokens → Result CertRow Flaw
row_at ds r = if is_row r then row_values ds r else Err BadLine

pub row_of_parts : (ds : List Declaration) (line : List (List ℕ)) (r : RowTokens) → row_parts line ≡ Some r → r.lemma ≡ false → row_of ds line ≡ row_at ds r
row_of_parts ds line r parts plain = rw parts (by_row r.lemma (is_row r) plain)
  where
    by_row : (lemma row : Bool) → lemma ≡ false → (asked BadLine (if not lemma && row then Some r else None) >>= row_values ds) ≡ (if row then row_values ds r else Err BadLine)
    by_row true row plain = absurd (cc)
    by_row false true plain = refl
    by_row false false plain = refl

pub lemma_row_of_parts : (ds : List Declaration) (line : List (List ℕ)) (r : RowTokens) → row_parts line ≡ Some r → lemma_row_of ds line ≡ (row_at ds r >>= λ row. Ok (over_lemma r.lemma row))
lemma_row_of_parts ds line r parts = rw parts (by_row (is_row r))
  where
    by_row : (row : Bool) → (asked BadLine (if row then Some r else None) >>= λ s. (row_values ds s >>= λ row. Ok (over_lemma s.lemma row))) ≡ ((if row then row_values ds r else Err BadLine) >>= λ row. Ok (over_lemma r.lemma row))
    by_row true = refl
    by_row false = refl
