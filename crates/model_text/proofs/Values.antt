-- Numbers in rows, and their values below a modulus.
use Rattle.model_text.proofs.Prelude.{◌≡◌, ◌<◌, ◌≤◌, ◌+◌, ◌-◌, ◌*◌, ℕ, true, List, [], ◌∷◌, ◌++◌, Option, Some, None, Ok, arith, refl, sym, ap, ap₂, ◌∙◌, subst, length, map, nat_le, nat_lt, nat_eq, All, flat_map, list_all, option_map, option_and_then, and_parts, nat_tests, length-append, length-map, append_assoc, append-nil, All-nil, All-cons, list_all-append, option_and_then_some, cond_some, mul-le-mul_left, Line, asked, NumberTooLarge, is_number, number_within, option_map_some, asked_ok, is_row, is_row_of, value_of, AreRows, after, values_below, values_in}

-- these are the values of the numbers, and all are below the modulus
pub record AreValues (m : ℕ) (numbers : Line) (values : List ℕ) : Type 0 where
  pub are : map value_of numbers ≡ values
  pub numbers_below : All (λ number. value_of number < m) numbers
  pub values_below : All (λ value. value < m) values

pub are_values : (m : ℕ) (numbers : Line) (values : List ℕ) → 1 ≤ m → values_below m numbers ≡ Some values → AreValues m numbers values
are_values m [] values some read =
    let same : [] ≡ values = cc in
    subst (AreValues m []) same (record { are = refl; numbers_below = All-nil (λ number. value_of number < m); values_below = All-nil (λ value. value < m) })
are_values m (number ∷ numbers) values some read =
    option_and_then_some (λ n. option_map (λ ns. n ∷ ns) (values_below m numbers)) (number_within (m - 1) number) values read (λ n here rest.
    option_map_some (λ ns. n ∷ ns) (values_below m numbers) values rest (λ ns there same.
    let first = cond_some (nat_le (value_of number) (m - 1)) (value_of number) n here in
    let within : value_of number < m = grind (arith, nat_tests, first.0, some) in
    let others = are_values m numbers ns some there in
    subst (AreValues m (number ∷ numbers)) same (record {
      are = ap₂ (λ v vs. v ∷ vs) first.1 others.are;
      numbers_below = All-cons (λ k. value_of k < m) number numbers within others.numbers_below;
      values_below = All-cons (λ value. value < m) n ns (subst (λ v. v < m) first.1 within) others.values_below;
    })))

no_values : (rest : Option (List ℕ)) → rest ≡ after [] rest
no_values None = refl
no_values (Some vs) = refl

one_more : (n : ℕ) (front : Option (List ℕ)) (rest : Option (List ℕ))
    → option_map (λ ns. n ∷ ns) (option_and_then (λ vs. after vs rest) front) ≡ option_and_then (λ vs. after vs rest) (option_map (λ ns. n ∷ ns) front)
one_more n None rest = refl
one_more n (Some vs) None = refl
one_more n (Some vs) (Some ws) = refl

with_first : (first : Option ℕ) (front rest : Option (List ℕ))
    → option_and_then (λ n. option_map (λ ns. n ∷ ns) (option_and_then (λ vs. after vs rest) front)) first
    ≡ option_and_then (λ vs. after vs rest) (option_and_then (λ n. option_map (λ ns. n ∷ ns) front) first)
with_first None front rest = refl
with_first (Some n) front rest = one_more n front rest

-- those of the first numbers are before those of the others
pub values_joined : (m : ℕ) (front rest : Line) → values_below m (front ++ rest) ≡ option_and_then (λ vs. after vs (values_below m rest)) (values_below m front)
values_joined m [] rest = no_values (values_below m rest)
values_joined m (number ∷ front) rest = rw (values_joined m front rest) (with_first (number_within (m - 1) number) (values_below m front) (values_below m rest))

-- rows
more_numbers : (columns : ℕ) (rest : List Line) → list_all (is_row_of columns) rest ≡ true
    → (list_all is_number (flat_map (λ row. row) rest) ≡ true) × (length (flat_map (λ row. row) rest) ≡ length rest * columns)
more_numbers columns [] rows = (refl, omega arith)
more_numbers columns (row ∷ rest) rows =
    let parts = and_parts (is_row_of columns row) (list_all (is_row_of columns) rest) rows in
    let shape = and_parts (is_row row) (nat_eq (length row) columns) parts.0 in
    let numbers = and_parts _ (list_all is_number row) shape.0 in
    let others = more_numbers columns rest parts.1 in
    let count : length row ≡ columns = grind (arith, nat_tests, shape.1) in (
      rw (list_all-append is_number row (flat_map (λ r. r) rest), numbers.1, others.0) refl,
      rw (length-append row (flat_map (λ r. r) rest), others.1, count) (omega arith),
    )

pub rows_have_length : (first : Line) (rest : List Line) → AreRows first rest → length (flat_map (λ row. row) (first ∷ rest)) ≡ (length rest + 1) * length first
rows_have_length first rest rows =
    rw (length-append first (flat_map (λ r. r) rest), (more_numbers (length first) rest rows.more).1) (omega arith)

-- the rows have numbers alone
abbrev pub HaveNumbers : List Line → Type 0
HaveNumbers rows = list_all (list_all is_number) rows ≡ true

pub rows_are_numbers : (columns : ℕ) (rest : List Line) → list_all (is_row_of columns) rest ≡ true → HaveNumbers rest
rows_are_numbers columns [] rows = refl
rows_are_numbers columns (row ∷ rest) rows =
    let parts = and_parts (is_row_of columns row) (list_all (is_row_of columns) rest) rows in
    let shape = and_parts (is_row row) (nat_eq (length row) columns) parts.0 in
    let numbers = and_parts _ (list_all is_number row) shape.0 in
    rw (numbers.1, rows_are_numbers columns rest parts.1) refl

-- those in rows are those of all their numbers
after_both : (front more : List ℕ) (rest : Option (List ℕ)) → after (front ++ more) rest ≡ after front (after more rest)
after_both front more None = refl
after_both front more (Some vs) = ap Some (append_assoc front more vs)

row_first : (front : List ℕ) (row rest : Option (List ℕ)) (values : List ℕ → Option (List ℕ)) → ((more : List ℕ) → values more ≡ after more rest)
    → option_and_then values (after front row) ≡ after front (option_and_then (λ vs. after vs rest) row)
row_first front None rest values each = refl
row_first front (Some vs) rest values each = each (front ++ vs) ∙ after_both front vs rest

values_behind : (m : ℕ) (front : List ℕ) (rows : List Line) → values_in m front rows ≡ after front (values_below m (flat_map (λ row. row) rows))
values_behind m front [] = ap Some (sym (append-nil front))
values_behind m front (row ∷ rows) =
    row_first front (values_below m row) (values_below m (flat_map (λ r. r) rows)) (λ more. values_in m more rows) (λ more. values_behind m more rows)
    ∙ ap (after front) (sym (values_joined m row (flat_map (λ r. r) rows)))

pub values_are : (m : ℕ) (rows : List Line) → values_in m [] rows ≡ values_below m (flat_map (λ row. row) rows)
values_are m rows = values_behind m [] rows ∙ sym (no_values (values_below m (flat_map (λ row. row) rows)))

pub rows_of_numbers : (first : Line) (rest : List Line) → AreRows first rest → HaveNumbers (first ∷ rest)
rows_of_numbers first rest rows =
    let numbers = and_parts _ (list_all is_number first) rows.first_row in
    rw (numbers.1, rows_are_numbers (length first) rest rows.more) refl

-- shapes
row_has_some : (first : Line) → is_row first ≡ true → 1 ≤ length first
row_has_some first row =
    let parts = and_parts (nat_lt 0 (length first)) (list_all is_number first) row in
    grind (arith, nat_tests, parts.0)

-- there are at most as many rows as values
pub rows_fit : (first : Line) (rest : List Line) (count : ℕ) → AreRows first rest → count ≡ (length rest + 1) * length first → length rest + 1 ≤ count
rows_fit first rest count rows is =
    let some : 1 ≤ length first = row_has_some first rows.first_row in
    omega (arith, is, mul-le-mul_left (length rest + 1) some)

-- the values, one for each number
pub record AreRowValues (m : ℕ) (first : Line) (rest : List Line) (values : List ℕ) : Type 0 where
  pub count : length values ≡ (length rest + 1) * length first
  pub below : All (λ value. value < m) values

pub row_values : (m : ℕ) (first : Line) (rest : List Line) (values : List ℕ) → 1 ≤ m → AreRows first rest
    → asked NumberTooLarge (values_below m (flat_map (λ row. row) (first ∷ rest))) ≡ Ok values → AreRowValues m first rest values
row_values m first rest values some rows read =
    let numbers : Line = flat_map (λ row. row) (first ∷ rest) in
    let found = are_values m numbers values some (asked_ok NumberTooLarge (values_below m numbers) values read) in
    record { count = ap length (sym found.are) ∙ length-map numbers value_of ∙ rows_have_length first rest rows; below = found.values_below }
