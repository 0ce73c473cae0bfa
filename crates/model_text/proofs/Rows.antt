-- The first ; of a line, and the rows on both sides of it.
use Rattle.model_text.proofs.Prelude.{◌≡◌, ◌<◌, ◌+◌, ◌-◌, ◌∙◌, ℕ, suc, true, false, List, [], ◌∷◌, ◌++◌, Some, None, arith, refl, ap, length, take, drop, nat_lt, codes, nat_tests, take_rest, cond_some, AllByRecursion, position, position_or_len, Line, is, tokens_of, IsSign, tokens_around, others, front_without, split_at_sign, all_without, rows_in, ends_row}

semicolon : IsSign 59
semicolon = record { sign = refl; gap = refl }

abbrev IsInRow : List ℕ → Type 0
IsInRow token = is (codes ";") token ≡ false

row_taken : (row rest : Line) → AllByRecursion IsInRow row → rows_in (row ++ codes ";" ∷ rest) ≡ (row, (rows_in rest).0 ∷ (rows_in rest).1)
row_taken [] rest each = refl
row_taken (token ∷ row) rest each = rw (each.0, row_taken row rest each.1) refl

one_row : (row : Line) → AllByRecursion IsInRow row → rows_in row ≡ (row, [])
one_row [] each = refl
one_row (token ∷ row) each = rw (each.0, one_row row each.1) refl

-- the rows where a ; follows so many characters
abbrev HasCut : List ℕ → List ℕ → List ℕ → Type 0
HasCut text front rest = rows_in (tokens_of text) ≡ (tokens_of front, (rows_in (tokens_of rest)).0 ∷ (rows_in (tokens_of rest)).1)

abbrev cut : List ℕ → ℕ
cut text = position_or_len ends_row text

cut_there : (text : List ℕ) → cut text < length text → HasCut text (take (cut text) text) (drop (suc (cut text)) text)
cut_there text within =
    let front : List ℕ = take (cut text) text in
    let rest : List ℕ = drop (suc (cut text)) text in
    ap (λ cs. rows_in (tokens_of cs)) (split_at_sign 59 text within) ∙ ap rows_in (tokens_around 59 front rest semicolon) ∙ row_taken (tokens_of front) (tokens_of rest) (others 59 front (front_without 59 text))

pub cut_at : (text : List ℕ) (place : ℕ) → position ends_row text ≡ Some place → place < length text → HasCut text (take place text) (take (length text - (place + 1)) (drop (place + 1) text))
cut_at text place found within =
    let parts : (nat_lt (cut text) (length text) ≡ true) × (cut text ≡ place) = cond_some _ _ _ found in
    let next : suc place ≡ place + 1 = omega arith in
    let there : HasCut text (take place text) (drop (suc place) text) = rw parts.1 at (cut_there text (omega (arith, parts.1, within))) in
    rw (take_rest, ← next) there

pub never_cut : (text : List ℕ) → position ends_row text ≡ None → rows_in (tokens_of text) ≡ (tokens_of text, [])
never_cut text none = one_row (tokens_of text) (others 59 text (all_without 59 text (grind (arith, nat_tests, none))))
