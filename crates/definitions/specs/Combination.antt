-- Sums of rows over generators.
use Rattle.std.specs.Prelude.{◌≢◌, ℕ, zero, suc, ℤ, pos, ◌<ℤ◌, Bool, List, [], ◌∷◌, ◌++◌, ◌||◌, get_or, IsTrue}
use Rattle.std.specs.List.{AllByRecursion, list_all}
use Rattle.std.specs.Ordering.{int_eq}
use Rattle.definitions.specs.Quiver.{Quiver, is_path}
use Rattle.definitions.specs.Poly.{Poly, coefficient_of, SamePolynomial, poly_sum, poly_multiple, poly_between}

-- The row c l G r of a sum, where G is the generator with this number, counted from 1; l and r are any words.
pub record Row : Type 0 where
  pub coefficient : ℤ
  pub left : List ℕ
  pub generator : ℕ
  pub right : List ℕ

-- the generator with this number, or the zero polynomial where there is none
abbrev pub generator_at : List Poly → ℕ → Poly
generator_at generators zero = []
generator_at generators (suc n) = get_or generators n []

-- c l G r as a polynomial
abbrev pub row_poly : List Poly → Row → Poly
row_poly generators r = poly_multiple r.coefficient (poly_between r.left (generator_at generators r.generator) r.right)

-- the sum of the rows
abbrev pub row_sum : List Poly → List Row → Poly
row_sum generators [] = []
row_sum generators (r ∷ rows) = poly_sum (row_poly generators r) (row_sum generators rows)

-- d is positive, and d times p is the sum of the rows
pub record IsCombination (generators : List Poly) (rows : List Row) (d : ℤ) (p : Poly) : Type 0 where
  pub positive : pos 0 <ℤ d
  pub sum : SamePolynomial (row_sum generators rows) (poly_multiple d p)

-- The rational ideal: some positive multiple of p is a sum of rows.
pub record InRationalIdeal (generators : List Poly) (p : Poly) : Type 0 where
  pub denominator : ℤ
  pub rows : List Row
  pub combination : IsCombination generators rows denominator p

-- In each row, each word l w r with w of nonzero coefficient in the generator is below the bound, in an order that is given by its test.
abbrev pub RowsAreBelow : (List ℕ → List ℕ → Bool) → List Poly → List ℕ → List Row → Type 0
RowsAreBelow below generators bound rows = AllByRecursion (λ r. (w : List ℕ)
    → coefficient_of (generator_at generators r.generator) w ≢ pos 0 → IsTrue (below (r.left ++ (w ++ r.right)) bound)) rows

-- a combination all of whose words are below the bound
pub record IsCombinationBelow (below : List ℕ → List ℕ → Bool) (generators : List Poly) (bound : List ℕ) (rows : List Row) (d : ℤ) (p : Poly) : Type 0 where
  pub combination : IsCombination generators rows d p
  pub rows_below : RowsAreBelow below generators bound rows

-- whether each word l w r, with w of nonzero coefficient in the generator, is a path of the signature (u, v)
abbrev pub is_typed_row : Quiver → ℕ → ℕ → List Poly → Row → Bool
is_typed_row q u v generators r =
    let g = generator_at generators r.generator in
    list_all (λ t. int_eq (coefficient_of g t.1) (pos 0) || is_path q u v (r.left ++ (t.1 ++ r.right))) g
