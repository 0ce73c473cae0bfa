-- the generator 3 a - b, where a and b have the numbers 1 and 2
use Rattle.cofactor_checker.proofs.Prelude.{◌≡◌, ℕ, ℤ, pos, negsuc, List, [], ◌∷◌, refl, product_of, sum_of, Row, row_sum, row_operations, term_count}

generators : List (List (ℤ × List ℕ))
generators = ((pos 3, 1 ∷ []) ∷ (negsuc 0, 2 ∷ []) ∷ []) ∷ []

-- 2 b G, and then G b - G b
rows : List Row
rows = record { coefficient = pos 2; left = 2 ∷ []; generator = 1; right = [] } ∷ record { coefficient = pos 1; left = []; generator = 1; right = 2 ∷ [] } ∷ record { coefficient = negsuc 0; left = []; generator = 1; right = 2 ∷ [] } ∷ []

-- the second row is 3 a b - b b, and b b has -2 so far
second_row : row_operations generators rows 1 (record { coefficient = pos 1; left = []; generator = 1; right = 2 ∷ [] })
    ≡ product_of (pos 1) (pos 3) ∷ sum_of (pos 0) (pos 3) ∷ product_of (pos 1) (negsuc 0) ∷ sum_of (negsuc 1) (negsuc 0) ∷ []
unfolding generators rows
second_row = refl

-- 6 b a - 2 b b is left
terms_left : term_count (row_sum generators rows) ≡ 2
unfolding generators rows
terms_left = refl
