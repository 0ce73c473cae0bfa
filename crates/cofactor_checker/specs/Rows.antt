-- The tests of rows, one after another.
use Rattle.std.specs.Prelude.{◌≡◌, ℕ, ◌+◌, ◌<◌, ◌≤◌, List, length, take, slice_get, Some, None}
use Rattle.coef_int.specs.declared.Overflow.{Overflow}
use Rattle.coef_int.specs.Operations.{first_overflow}
use Rattle.definitions.specs.Poly.{Poly}
use Rattle.definitions.specs.Combination.{Row, row_sum}
use Rattle.nc_polynomial.specs.Collected.{collected}
use Rattle.cofactor_checker.specs.Operations.{row_operations}

-- how many terms the polynomial has, once the terms of one word are collected
abbrev pub term_count : Poly → ℕ
term_count p = length (collected p)

-- the limit of the terms of a sum
abbrev pub sum_limit : ℕ
sum_limit = 200000

-- a number from 1 to the count
pub record IsNumberUpTo (count number : ℕ) : Type 0 where
  pub least : 1 ≤ number
  pub most : number ≤ count

-- The row behind the first i ones passes: its generator is one, no product or sum of it leaves the range, and the sum with it has at most 200,000 terms.
pub record RowPasses (generators : List Poly) (rows : List Row) (i : ℕ) (r : Row) : Type 0 where
  pub generator : IsNumberUpTo (length generators) r.generator
  pub operations : first_overflow (row_operations generators rows i r) ≡ None
  pub size : term_count (row_sum generators (take (i + 1) rows)) ≤ sum_limit

-- each of the first n rows passes
pub record RowsPass (generators : List Poly) (rows : List Row) (n : ℕ) : Type 0 where
  pub at : (i : ℕ) (r : Row) → i < n → slice_get rows i ≡ Some r → RowPasses generators rows i r

-- the row with this number, counted from 1, is r, stands behind the first i ones, and each of these passes
pub record Reaches (generators : List Poly) (rows : List Row) (number i : ℕ) (r : Row) : Type 0 where
  pub numbered : number ≡ i + 1
  pub row : slice_get rows i ≡ Some r
  pub earlier : RowsPass generators rows i

-- The row is the first that does not pass, since it names no generator.
pub record LacksGenerator (generators : List Poly) (rows : List Row) (number : ℕ) : Type 0 where
  pub before : ℕ
  pub row : Row
  pub reached : Reaches generators rows number before row
  pub generator : IsNumberUpTo (length generators) row.generator → ⊥

-- The row is the first that does not pass, and this is its first product or sum that leaves the range.
pub record Overflows (generators : List Poly) (rows : List Row) (number : ℕ) (overflow : Overflow) : Type 0 where
  pub before : ℕ
  pub row : Row
  pub reached : Reaches generators rows number before row
  pub generator : IsNumberUpTo (length generators) row.generator
  pub operations : first_overflow (row_operations generators rows before row) ≡ Some overflow

-- The row is the first that does not pass, since the sum with it has more than 200,000 terms.
pub record Outgrows (generators : List Poly) (rows : List Row) (number : ℕ) : Type 0 where
  pub before : ℕ
  pub row : Row
  pub reached : Reaches generators rows number before row
  pub generator : IsNumberUpTo (length generators) row.generator
  pub operations : first_overflow (row_operations generators rows before row) ≡ None
  pub size : sum_limit < term_count (row_sum generators (take (before + 1) rows))
