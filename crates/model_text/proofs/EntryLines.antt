-- The lines `side` and `map`: what is read of a line is the tree whose line it is.
use Rattle.model_text.proofs.Prelude.{◌≡◌, ℕ, Bool, true, false, ◌&&◌, List, [], ◌∷◌, ◌++◌, Option, Some, IsTrue, refl, ap, ap₂, subst, codes, list_all, option_and_then, and_parts, option_and_then_some, cond_some, is_number, is, begins, is_end, Line, is_word, other_word, by_test, EntryTokens, side, matrix, more_rows, entry_line, is_row, is_row_of, is_entry, rows_in, side_tokens, map_tokens, if_entry, entry_tokens}

-- rows
rows_cut : (token : List ℕ) (tokens : Line) (b : Bool) → is (codes ";") token ≡ b → tokens ≡ (rows_in tokens).0 ++ more_rows (rows_in tokens).1
    → token ∷ tokens ≡ (rows_in (token ∷ tokens)).0 ++ more_rows (rows_in (token ∷ tokens)).1
rows_cut token tokens true same rest = rw same (ap₂ (λ t (ts : Line). t ∷ ts) (is_word (codes ";") token same) rest)
rows_cut token tokens false same rest = rw same (ap (λ (ts : Line). token ∷ ts) rest)

rows_are : (tokens : Line) → tokens ≡ (rows_in tokens).0 ++ more_rows (rows_in tokens).1
rows_are [] = refl
rows_are (token ∷ tokens) = rows_cut token tokens (is (codes ";") token) refl (rows_are tokens)

no_sign : (token : List ℕ) → is_number token ≡ true → is (codes ";") token ≡ false
no_sign token number = other_word is_number (codes ";") token number refl

row_read : (first tokens : Line) (rest : List Line) → list_all is_number first ≡ true → rows_in tokens ≡ ([], rest) → rows_in (first ++ tokens) ≡ (first, rest)
row_read [] tokens rest numbers read = read
row_read (number ∷ first) tokens rest numbers read =
    let parts = and_parts (is_number number) (list_all is_number first) numbers in
    rw (no_sign number parts.0, row_read first tokens rest parts.1 read) refl

row_numbers : (columns : ℕ) (row : Line) → is_row_of columns row ≡ true → list_all is_number row ≡ true
row_numbers columns row of =
    let shape = and_parts (is_row row) _ of in
    let numbers = and_parts _ (list_all is_number row) shape.0 in
    numbers.1

more_read : (columns : ℕ) (rest : List Line) → list_all (is_row_of columns) rest ≡ true → rows_in (more_rows rest) ≡ ([], rest)
more_read columns [] each = refl
more_read columns (row ∷ rest) each =
    let parts = and_parts (is_row_of columns row) (list_all (is_row_of columns) rest) each in
    rw (row_read row (more_rows rest) rest (row_numbers columns row parts.0) (more_read columns rest parts.1)) refl

-- what is read is the tree of the line
side_is : (line : Line) (e : EntryTokens) → side_tokens line ≡ Some e → line ≡ entry_line e
side_is [] e read = absurd (cc)
side_is (word ∷ []) e read = absurd (cc)
side_is (word ∷ name ∷ []) e read = absurd (cc)
side_is (word ∷ name ∷ number ∷ []) e read =
    let found = cond_some (is (codes "side") word) (side name number) e read in
    subst (λ t. word ∷ name ∷ number ∷ [] ≡ entry_line t) found.1 (ap (λ t. t ∷ name ∷ number ∷ []) (is_word (codes "side") word found.0))
side_is (word ∷ name ∷ number ∷ token ∷ tokens) e read = absurd (cc)

map_is : (line : Line) (e : EntryTokens) → map_tokens line ≡ Some e → line ≡ entry_line e
map_is [] e read = absurd (cc)
map_is (word ∷ []) e read = absurd (cc)
map_is (word ∷ name ∷ []) e read = absurd (cc)
map_is (word ∷ name ∷ sign ∷ tokens) e read =
    let found = cond_some (is (codes "map") word && is (codes "=") sign) (matrix name (rows_in tokens).0 (rows_in tokens).1) e read in
    let parts = and_parts (is (codes "map") word) (is (codes "=") sign) found.0 in
    subst (λ t. word ∷ name ∷ sign ∷ tokens ≡ entry_line t) found.1
    (ap₂ (λ t (ts : Line). t ∷ name ∷ ts) (is_word (codes "map") word parts.0) (ap₂ (λ s (ts : Line). s ∷ ts) (is_word (codes "=") sign parts.1) (rows_are tokens)))

checked_is : (line : Line) (o : Option EntryTokens) (e : EntryTokens) → ((t : EntryTokens) → o ≡ Some t → line ≡ entry_line t) → option_and_then if_entry o ≡ Some e → (line ≡ entry_line e) × IsTrue (is_entry e)
checked_is line o e is_line read =
    option_and_then_some if_entry o e read (λ t found kept.
    let known = cond_some (is_entry t) t e kept in
    subst (λ (k : EntryTokens). (line ≡ entry_line k) × IsTrue (is_entry k)) known.1 (is_line t found, known.0))

pub entry_is : (line : Line) (e : EntryTokens) → entry_tokens line ≡ Some e → (line ≡ entry_line e) × IsTrue (is_entry e)
entry_is line e read =
    by_test (begins (codes "side") line) _ _ (Some e) read
    (λ there read_side. checked_is line (side_tokens line) e (side_is line) read_side)
    (λ absent read_map. checked_is line (map_tokens line) e (map_is line) read_map)

-- and the line of a tree is read as the tree
pub entry_read : (e : EntryTokens) → IsTrue (is_entry e) → entry_tokens (entry_line e) ≡ Some e
entry_read (side name number) kept = rw kept refl
entry_read (matrix name first rest) kept =
    let parts = and_parts _ (is_row first && list_all (is_row_of _) rest) kept in
    let shape = and_parts (is_row first) (list_all (is_row_of _) rest) parts.1 in
    let numbers = and_parts _ (list_all is_number first) shape.0 in
    rw (row_read first (more_rows rest) rest numbers.1 (more_read _ rest shape.1), kept) refl

pub entry_goes_on : (e : EntryTokens) → is_end (entry_line e) ≡ false
entry_goes_on (side name number) = refl
entry_goes_on (matrix name first rest) = refl
