-- A matrix that is built entry by entry.
use Rattle.matrix_models.proofs.Prelude.{◌≡◌, ℕ, ◌+◌, ◌*◌, ◌/◌, ◌%◌, ◌<◌, List, ◌∷◌, [], ◌++◌, length, map, ap, ap₂, sym, refl, subst, ◌∙◌, arith, zero-mul, range_with_len, map-range_with_len_more, All-nil, All-push, div-mul-add, mod-mul-add, Matrix, matrix_of, All}
use Rattle.std.proofs.Common.{length-append}

-- So many entries, row by row: they are below the modulus, and are those of each function that agrees with the answers.
pub record AreBuilt (m rows columns : ℕ) (Answers : ℕ → ℕ → ℕ → Type 0) (place : ℕ) (entries : List ℕ) : Type 0 where
  pub count : length entries ≡ place
  pub entries_below : All (λ entry. entry < m) entries
  pub entries_are : (f : ℕ → ℕ → ℕ)
      → ((row column value : ℕ) → row < rows → column < columns → Answers row column value → value ≡ f row column)
      → entries ≡ map (λ k. f (k / columns) (k % columns)) (range_with_len 0 place)

module _ (m rows columns : ℕ) (Answers : ℕ → ℕ → ℕ → Type 0) where
  abbrev Built : ℕ → List ℕ → Type 0
  Built = AreBuilt m rows columns Answers

  pub none_built : (entries : List ℕ) → entries ≡ [] → Built (0 * columns) entries
  none_built entries empty = subst (Built (0 * columns)) (sym empty) (subst (λ place. Built place []) (sym (zero-mul columns)) (record {
    count = refl;
    entries_below = All-nil (λ entry. entry < m);
    entries_are = λ f agrees. refl;
  }))

  pub row_begun : (row : ℕ) (entries : List ℕ) → Built (row * columns) entries → Built (row * columns + 0) entries
  row_begun row entries built =
      let same : row * columns ≡ row * columns + 0 = omega arith in
      subst (λ place. Built place entries) same built

  pub row_ended : (row column : ℕ) (entries : List ℕ) → column ≡ columns → Built (row * columns + column) entries
      → Built ((row + 1) * columns) entries
  row_ended row column entries all built =
      let whole : row * columns + columns ≡ (row + 1) * columns = grind arith in
      subst (λ place. Built place entries) (ap (λ n. row * columns + n) all ∙ whole) built

  -- one entry more
  module _ (row column : ℕ) (xs ys : List ℕ) (x : ℕ) (built : Built (row * columns + column) xs) (pushed : ys ≡ xs ++ x ∷ [])
      (in_rows : row < rows) (in_columns : column < columns) (below : x < m) (answer : Answers row column x) where
    entry_pushed : Built (row * columns + column + 1) ys
    entry_pushed = record {
      count = omega (arith, built.count, ap length pushed, length-append xs (x ∷ []));
      entries_below = subst (All (λ entry. entry < m)) (sym pushed) (All-push (λ entry. entry < m) xs x built.entries_below below);
      entries_are = λ f agrees.
          let place = row * columns + column in
          let there : x ≡ f (place / columns) (place % columns) =
          agrees row column x in_rows in_columns answer
          ∙ sym (ap₂ f (div-mul-add row columns column in_columns) (mod-mul-add row columns column in_columns)) in
          pushed ∙ ap₂ (λ zs z. zs ++ z ∷ []) (built.entries_are f agrees) there
          ∙ sym (map-range_with_len_more (λ n. f (n / columns) (n % columns)) 0 place place (omega arith));
    }

    pub entry_built : Built (row * columns + (column + 1)) ys
    entry_built =
        let next : row * columns + column + 1 ≡ row * columns + (column + 1) = omega arith in
        subst (λ place. Built place ys) next entry_pushed

-- all entries
pub matrix_built : (m rows columns row : ℕ) (Answers : ℕ → ℕ → ℕ → Type 0) (f : ℕ → ℕ → ℕ) (entries : List ℕ) → row ≡ rows
    → AreBuilt m rows columns Answers (row * columns) entries
    → ((row column value : ℕ) → row < rows → column < columns → Answers row column value → value ≡ f row column)
    → ◌≡◌ {A = Matrix} (record { modulus = m; rows = rows; columns = columns; entries = entries }) (matrix_of m rows columns f)
matrix_built m rows columns row Answers f entries all built agrees =
    ap (λ (xs : List ℕ). record { modulus = m; rows = rows; columns = columns; entries = xs })
    (built.entries_are f agrees ∙ ap (λ n. map (λ k. f (k / columns) (k % columns)) (range_with_len 0 (n * columns))) all)
