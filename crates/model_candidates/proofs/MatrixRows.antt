-- Lists of entries that are made row by row, and the matrices that they make.
use Rattle.model_candidates.proofs.Prelude.{◌≡◌, ℕ, ◌+◌, ◌*◌, ◌<◌, ◌≤◌, [], ◌++◌, List, length, get_or, map, ◌⊎◌, inl, inr, refl, sym, ap, subst, ◌∙◌, arith, add-mul, one-mul, range_with_len, cases_lt, length-append, get_or_append_left, get_or-append-add, All-append, All-from_get_or, All-nil, get_or-map-range_with_len, length-map-range_with_len, Matrix, entry_at, IsMatrix, same_matrix, All}
use Rattle.matrix_models.specs.Matrix.{IsSide}

-- Numbers below m that are the entries f in so many rows, row by row.
pub record AreRows (m columns : ℕ) (f : ℕ → ℕ → ℕ) (rows : ℕ) (entries : List ℕ) : Type 0 where
  pub size : length entries ≡ rows * columns
  pub below : All (λ entry. entry < m) entries
  pub each : (i k : ℕ) → i < rows → k < columns → get_or entries (i * columns + k) 0 ≡ f i k

pub no_rows : (m columns : ℕ) (f : ℕ → ℕ → ℕ) → AreRows m columns f 0 []
no_rows m columns f = record {
  size = omega arith;
  below = All-nil (λ entry. entry < m);
  each = λ i k within inside. absurd (omega (arith, within));
}

in_earlier_rows : (i k rows columns : ℕ) → i < rows → k < columns → i * columns + k < rows * columns
in_earlier_rows i k rows columns within inside = grind arith

pub one_row_more : (m columns rows : ℕ) (f : ℕ → ℕ → ℕ) (g : ℕ → ℕ) (entries : List ℕ) → AreRows m columns f rows entries
    → ((k : ℕ) → k < columns → g k < m) → ((k : ℕ) → k < columns → g k ≡ f rows k)
    → AreRows m columns f (rows + 1) (entries ++ map g (range_with_len 0 columns))
one_row_more m columns rows f g entries so_far small same = record {
  size = length-append entries last ∙ ap (λ n. n + length last) so_far.size ∙ ap (λ n. rows * columns + n) last_size
      ∙ sym (add-mul rows 1 columns ∙ ap (λ n. rows * columns + n) (one-mul columns));
  below = All-append (λ entry. entry < m) entries last so_far.below
      (All-from_get_or (λ entry. entry < m) last 0 (λ k inside.
      let within : k < columns = omega (arith, inside, last_size) in subst (λ y. y < m) (sym (here k within)) (small k within)));
  each = λ i k within inside. go i k within inside (cases_lt i rows);
}
  where
    last : List ℕ
    last = map g (range_with_len 0 columns)

    last_size : length last ≡ columns
    last_size = length-map-range_with_len g 0 columns

    here : (k : ℕ) → k < columns → get_or last k 0 ≡ g k
    here k within = get_or-map-range_with_len g 0 columns k k 0 within (omega arith)

    go : (i k : ℕ) → i < rows + 1 → k < columns → (i < rows) ⊎ (rows ≤ i) → get_or (entries ++ last) (i * columns + k) 0 ≡ f i k
    go i k within inside (inl earlier) =
        get_or_append_left entries last 0 (i * columns + k)
        (subst (λ n. i * columns + k < n) (sym so_far.size) (in_earlier_rows i k rows columns earlier inside))
        ∙ so_far.each i k earlier inside
    go i k within inside (inr late) =
        let is : i ≡ rows = omega (arith, within, late) in
        ap (λ n. get_or (entries ++ last) (n * columns + k) 0) is
        ∙ ap (λ n. get_or (entries ++ last) (n + k) 0) (sym so_far.size)
        ∙ get_or-append-add entries last k 0 ∙ here k inside ∙ same k inside ∙ ap (λ n. f n k) (sym is)

-- all rows of a matrix
pub rows_of_matrix : {m rows columns : ℕ} {a : Matrix} {entries : List ℕ} → IsMatrix m a → a.rows ≡ rows → a.columns ≡ columns
    → AreRows m columns (entry_at a) rows entries → record { modulus = m; rows = rows; columns = columns; entries = entries } ≡ a
rows_of_matrix {m} {rows} {columns} {a} {entries} is rows_are columns_are all = same_matrix m made a (record {
  is_modulus = is.is_modulus;
  modulus_is = refl;
  shape = record {
    rows_side = subst IsSide rows_are is.shape.rows_side;
    columns_side = subst IsSide columns_are is.shape.columns_side;
    size = all.size;
  };
  entries_below = all.below;
}) is (sym rows_are) (sym columns_are) all.each
  where
    made : Matrix
    made = record { modulus = m; rows = rows; columns = columns; entries = entries }
