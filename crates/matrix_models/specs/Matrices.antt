-- The matrices modulo m as a category with transposes. A map from U to V has as many rows as the side of V, and as many
-- columns as the side of U.
use Rattle.std.specs.Prelude.{ℕ, zero, suc, ◌+◌, ◌-◌, ◌*◌, ◌%◌, nat_eq, if◌then◌else◌}
use Rattle.definitions.specs.Category.{Structure}
use Rattle.matrix_models.specs.Matrix.{Matrix, entry_at, matrix_of, IsModulus, IsSide, IsMatrix}

-- f 0 + .. + f (n - 1)
abbrev pub total : ℕ → (ℕ → ℕ) → ℕ
total zero f = 0
total (suc n) f = total n f + f n

-- 1 on the diagonal, and 0 elsewhere
abbrev pub identity_matrix : ℕ → ℕ → Matrix
identity_matrix m side = matrix_of m side side (λ row column. if nat_eq row column then 1 else 0)

abbrev pub zero_matrix : ℕ → ℕ → ℕ → Matrix
zero_matrix m rows columns = matrix_of m rows columns (λ row column. 0)

-- entry by entry, modulo m
abbrev pub matrix_sum : ℕ → Matrix → Matrix → Matrix
matrix_sum m a b = matrix_of m a.rows a.columns (λ row column. (entry_at a row column + entry_at b row column) % m)

abbrev pub matrix_negative : ℕ → Matrix → Matrix
matrix_negative m a = matrix_of m a.rows a.columns (λ row column. (m - entry_at a row column) % m)

-- each entry is the sum over k of the row's entry k in a times the column's entry k in b, modulo m
abbrev pub matrix_product : ℕ → Matrix → Matrix → Matrix
matrix_product m a b = matrix_of m a.rows b.columns (λ row column. total a.columns (λ k. entry_at a row k * entry_at b k column) % m)

-- rows and columns exchanged
abbrev pub transpose : ℕ → Matrix → Matrix
transpose m a = matrix_of m a.columns a.rows (λ row column. entry_at a column row)

-- The objects are the sides, where m is a modulus.
pub record IsObject (m side : ℕ) : Type 0 where
  pub is_modulus : IsModulus m
  pub is_side : IsSide side

abbrev pub matrices : ℕ → Structure ℕ Matrix
matrices m = record {
  is_object = IsObject m;
  is_arrow = IsMatrix m;
  source = λ a. a.columns;
  target = λ a. a.rows;
  identity = identity_matrix m;
  zero = λ source target. zero_matrix m target source;
  add = matrix_sum m;
  negate = matrix_negative m;
  compose = matrix_product m;
}
