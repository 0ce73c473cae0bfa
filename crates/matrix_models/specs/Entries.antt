-- The entries of a matrix that is given by its entries, and matrices with the same entries.
use Rattle.std.proofs.Common.{◌≡◌, ℕ, ◌+◌, ◌*◌, ◌/◌, ◌%◌, ◌<◌, length, get_or, sym, refl, ap, ap₂, subst, ◌∙◌, arith, div-lt_iff_lt-mul, mod-lt, div-add-mod'}
use Rattle.std.proofs.lemmas.Nat.{div-mul-add, mod-mul-add}
use Rattle.std.proofs.lemmas.List.FromFn.{get_or-map-range_with_len, length-map-range_with_len}
use Rattle.std.proofs.lemmas.List.Elements.{All-get_or, All-from_get_or}
use Rattle.std.proofs.lemmas.List.{ext_get_or}
use Rattle.matrix_models.specs.Matrix.{Matrix, entry_at, matrix_of, IsMatrix}
use Rattle.matrix_models.specs.Matrices.{IsObject}

place_below : (rows columns i j : ℕ) → i < rows → j < columns → i * columns + j < rows * columns
place_below rows columns i j in_rows in_columns = grind arith

pub entry_at-matrix_of : (m r c : ℕ) (f : ℕ → ℕ → ℕ) (i j : ℕ) → i < r → j < c → entry_at (matrix_of m r c f) i j ≡ f i j
entry_at-matrix_of m r c f i j h k =
    get_or-map-range_with_len (λ n. f (n / c) (n % c)) 0 (r * c) (i * c + j) (i * c + j) 0 (place_below r c i j h k) (omega arith)
    ∙ ap₂ f (div-mul-add i c j k) (mod-mul-add i c j k)

-- entries below the modulus make a matrix
pub matrix_of_is_matrix : (m r c : ℕ) (f : ℕ → ℕ → ℕ) → IsObject m r → IsObject m c → ((i j : ℕ) → i < r → j < c → f i j < m) → IsMatrix m (matrix_of m r c f)
matrix_of_is_matrix m r c f rows columns below = record {
  is_modulus = rows.is_modulus;
  modulus_is = refl;
  shape = record { rows_side = rows.is_side; columns_side = columns.is_side; size = length-map-range_with_len (λ n. f (n / c) (n % c)) 0 (r * c) };
  entries_below = All-from_get_or (λ e. e < m) (matrix_of m r c f).entries 0 (λ place within.
      let within_size : place < r * c = subst (λ x. place < x) (length-map-range_with_len (λ n. f (n / c) (n % c)) 0 (r * c)) within in
      subst (λ x. x < m) (sym (get_or-map-range_with_len (λ n. f (n / c) (n % c)) 0 (r * c) place place 0 within_size (omega arith)))
      (below (place / c) (place % c) ((div-lt_iff_lt-mul columns.is_side.positive).1 within_size) (mod-lt place columns.is_side.positive)));
}

-- its sides are objects
pub rows_object : {m : ℕ} {a : Matrix} → IsMatrix m a → IsObject m a.rows
rows_object p = record { is_modulus = p.is_modulus; is_side = p.shape.rows_side }

pub columns_object : {m : ℕ} {a : Matrix} → IsMatrix m a → IsObject m a.columns
columns_object p = record { is_modulus = p.is_modulus; is_side = p.shape.columns_side }

pub entry_at_below : (m : ℕ) (a : Matrix) (i j : ℕ) → IsMatrix m a → i < a.rows → j < a.columns → entry_at a i j < m
entry_at_below m a i j p h k =
    All-get_or (λ e. e < m) a.entries (i * a.columns + j) 0
    (subst (λ x. i * a.columns + j < x) (sym p.shape.size) (place_below a.rows a.columns i j h k)) p.entries_below

-- two matrices with the same sides and entries are one
pub same_matrix : (m : ℕ) (a b : Matrix) → IsMatrix m a → IsMatrix m b → a.rows ≡ b.rows → a.columns ≡ b.columns
    → ((i j : ℕ) → i < a.rows → j < a.columns → entry_at a i j ≡ entry_at b i j) → a ≡ b
same_matrix m a b p q rows columns same = λ i. record { modulus = moduli i; rows = rows i; columns = columns i; entries = lists i }
  where
    moduli : a.modulus ≡ b.modulus
    moduli = p.modulus_is ∙ sym q.modulus_is

    lists : a.entries ≡ b.entries
    lists = ext_get_or 0 a.entries b.entries (p.shape.size ∙ ap₂ ◌*◌ rows columns ∙ sym q.shape.size) each
      where
        each : (k : ℕ) → k < length a.entries → get_or a.entries k 0 ≡ get_or b.entries k 0
        each k l =
            let c = a.columns in
            let within : k < a.rows * a.columns = subst (λ x. k < x) p.shape.size l in
            let place : k / a.columns * a.columns + k % a.columns ≡ k = div-add-mod' k a.columns in
            ap (λ n. get_or a.entries n 0) (sym place)
            ∙ same (k / a.columns) (k % a.columns) ((div-lt_iff_lt-mul p.shape.columns_side.positive).1 within) (mod-lt k p.shape.columns_side.positive)
            ∙ ap (λ n. get_or b.entries (k / a.columns * n + k % a.columns) 0) (sym columns)
            ∙ ap (λ n. get_or b.entries n 0) place
