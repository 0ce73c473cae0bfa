-- Matrices over the integers modulo a number.
use Rattle.std.specs.Prelude.{◌≡◌, ℕ, ◌+◌, ◌*◌, ◌/◌, ◌%◌, ◌<◌, ◌≤◌, List, length, get_or, map, nat_le, Option, position, All}
use Rattle.std.specs.List.{range_with_len}
use Rattle.matrix_models.specs.Limits.{side_limit, modulus_limit}

-- the entries stand row by row
pub record Matrix : Type 0 where
  pub modulus : ℕ
  pub rows : ℕ
  pub columns : ℕ
  pub entries : List ℕ

-- the entry in this row and column, both counted from 0
abbrev pub entry_at : Matrix → ℕ → ℕ → ℕ
entry_at a row column = get_or a.entries (row * a.columns + column) 0

-- the matrix with these entries
abbrev pub matrix_of : ℕ → ℕ → ℕ → (ℕ → ℕ → ℕ) → Matrix
matrix_of modulus rows columns entry = record {
  modulus = modulus;
  rows = rows;
  columns = columns;
  entries = map (λ place. entry (place / columns) (place % columns)) (range_with_len 0 (rows * columns));
}

pub record IsModulus (m : ℕ) : Type 0 where
  pub at_least : 2 ≤ m
  pub at_most : m ≤ modulus_limit

pub record IsSide (n : ℕ) : Type 0 where
  pub positive : 1 ≤ n
  pub at_most : n ≤ side_limit

-- A matrix with these sides has so many entries.
pub record HasShape (rows columns count : ℕ) : Type 0 where
  pub rows_side : IsSide rows
  pub columns_side : IsSide columns
  pub size : count ≡ rows * columns

-- It is a matrix modulo m.
pub record IsMatrix (m : ℕ) (a : Matrix) : Type 0 where
  pub is_modulus : IsModulus m
  pub modulus_is : a.modulus ≡ m
  pub shape : HasShape a.rows a.columns (length a.entries)
  pub entries_below : All (λ entry. entry < m) a.entries

-- the first place at which an entry isn't below the modulus, counted from 0
abbrev pub first_too_large : ℕ → List ℕ → Option ℕ
first_too_large m entries = position (λ entry. nat_le m entry) entries
