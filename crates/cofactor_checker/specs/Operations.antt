-- The products and sums of a check, in the order in which they are made.
use Rattle.std.specs.Prelude.{ℕ, ℤ, ◌*ℤ◌, List, [], ◌∷◌, ◌++◌, take}
use Rattle.std.specs.List.{flat_map}
use Rattle.coef_int.specs.declared.Overflow.{Overflow}
use Rattle.coef_int.specs.Operations.{product_of, sum_of}
use Rattle.definitions.specs.Poly.{Poly, coefficient_of}
use Rattle.definitions.specs.Combination.{Row, generator_at, row_sum}

-- c l g r, added to a polynomial with these coefficients: for each term of g the product with c, and the sum of what the word has so far and that product
abbrev pub adding_operations : (List ℕ → ℤ) → ℤ → List ℕ → Poly → List ℕ → List Overflow
adding_operations so_far c l g r = flat_map (λ t. product_of c t.0 ∷ sum_of (so_far (l ++ (t.1 ++ r))) (c *ℤ t.0) ∷ []) g

-- the row, added to the sum of the first i rows
abbrev pub row_operations : List Poly → List Row → ℕ → Row → List Overflow
row_operations generators rows i r = adding_operations (coefficient_of (row_sum generators (take i rows))) r.coefficient r.left
    (generator_at generators r.generator) r.right
